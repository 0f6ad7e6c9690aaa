-- The first task that may begin begins, until there is none.
use Rattle.std.proofs.Common.{◌++◌, [], ◌∷◌, Some, sym, ap, ◌∙◌}
use Rattle.std.specs.Option.{option_copied}
use Rattle.tree_types.specs.declared.fact.Fact.{Fact}
use Rattle.tree_types.specs.declared.path.Path.{Path}
use Rattle.wf_object.proofs.Bounds.{told}
use Rattle.wf_object.proofs.Began.{began_first, began_closed, began_on, began_err}
use Rattle.wf_object.proofs.closing.close.Goals as goal

pub loop-init : goal.loop-init
loop-init c = began_first c.args.from c.args.told c.requires

pub returns-in_default : goal.returns-in_default
returns-in_default c = began_closed c.args.from c.loop.state c.args.told c.loop.facts c.loop.invariant (sym (ap option_copied c.in_default.is) ∙ c.first_beginning.ensures)

pub returns-in_err-state : goal.returns-in_err-state
returns-in_err-state c =
    let first = ap (λ (p : Path). Some p) c.in_ok-copy.ensures ∙ sym (ap option_copied c.in-Some.is) ∙ c.first_beginning.ensures in
    began_err c.args.from c.loop.state c.args.told c.loop.facts c.loop.invariant c.in_ok-copy.field-0 first c.in_err-state.field-0.0 c.in_err-state.ensures c.from_residual-in_err-state.result c.from_residual-in_err-state.ensures.1

pub loop-preserved : goal.loop-preserved
loop-preserved c =
    let first = ap (λ (p : Path). Some p) c.in_ok-copy.ensures ∙ sym (ap option_copied c.in-Some.is) ∙ c.first_beginning.ensures in
    began_on c.args.from c.loop.state c.args.told c.loop.facts c.loop.invariant c.in_ok-copy.field-0 first c.in_ok-state.state c.push.new.self
    (c.in_ok-push.ensures.ok ∙ ap (λ (f : Fact). c.loop.facts ++ f ∷ []) c.in_ok-copy-2.ensures) (c.in_ok-state.ensures (told c.in_ok-state.state))
