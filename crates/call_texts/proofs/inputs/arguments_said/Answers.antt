-- One argument more is said, or none.
use Rattle.std.proofs.Common.{◌∷◌, ◌++◌, []}
use Rattle.std.proofs.lemmas.Result.{err_from_is_err_and}
use Rattle.meaning.specs.Calls.{arguments_said}
use Rattle.call_texts.proofs.InOrder.{argument_more, argument_halts}
use Rattle.call_texts.proofs.inputs.arguments_said.Goals as goal

pub returns-in_err-value : goal.returns-in_err-value
returns-in_err-value c =
    let p = err_from_is_err_and c.from_residual.result c.from_residual.ensures.1 in
    let scope = c.args.scope.now in
    let all = c.args.arguments.now in
    rw (p.1, p.2) (argument_halts scope all c.loop-i.i c.get-argument.result.now c.in_err-value.field-0.0 c.loop-i.invariant.0 (arguments_said scope all) c.get-argument.ensures
    c.in_err-value.ensures c.loop-i.invariant.2)

pub loop-i-preserved : goal.loop-i-preserved
loop-i-preserved c =
    let before = c.loop-i.invariant.0 in
    let a = c.get-argument.result.now in
    let scope = c.args.scope.now in
    let all = c.args.arguments.now in (
      before ++ (a.name, c.in_ok-value.value) ∷ [],
      c.in_ok-give.ensures before c.loop-i.invariant.1,
      argument_more scope all c.loop-i.i a c.in_ok-value.value before (arguments_said scope all) c.get-argument.ensures c.in_ok-value.ensures c.loop-i.invariant.2,
    )
