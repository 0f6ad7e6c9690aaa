-- One input more has its value, or has none.
use Rattle.std.proofs.Common.{◌≡◌, ◌+◌, List, drop, subst, sym}
use Rattle.std.proofs.lemmas.Result.{err_from_is_err_and}
use Rattle.tree_types.specs.declared.outcome.Param.{Param}
use Rattle.meaning.specs.Calls.{inputs_said}
use Rattle.call_texts.proofs.InOrder.{behind, input_more, input_halts}
use Rattle.call_texts.proofs.inputs.inputs_said.Goals as goal

pub returns-in_err-value : goal.returns-in_err-value
returns-in_err-value c = λ scope holds.
    let p = err_from_is_err_and c.from_residual.result c.from_residual.ensures.1 in
    let globals = c.args.globals.now in
    let all = c.args.inputs.now in
    rw (p.1, p.2) (input_halts globals scope all c.loop-i.i c.get-input.result.now c.in_err-value.field-0.0 c.loop-i.params (inputs_said globals scope all) c.get-input.ensures
    (c.in_err-value.ensures scope holds) (c.loop-i.invariant scope holds))

pub loop-i-preserved : goal.loop-i-preserved
loop-i-preserved c = λ scope holds.
    let globals = c.args.globals.now in
    let all = c.args.inputs.now in
    let total = inputs_said globals scope all in
    subst (λ (ps : List Param). behind ps (inputs_said globals scope (drop (c.loop-i.i + 1) all)) ≡ total) (sym c.in_ok-push_value.ensures)
    (input_more globals scope all c.loop-i.i c.get-input.result.now c.in_ok-value.value c.loop-i.params total c.get-input.ensures (c.in_ok-value.ensures scope holds) (c.loop-i.invariant scope holds))
