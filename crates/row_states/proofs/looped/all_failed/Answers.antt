-- The first item that is not Failed decides.
use Rattle.std.proofs.Common.{Some, sym, ap, ◌∙◌}
use Rattle.tree_types.specs.Phases.{is_failed}
use Rattle.meaning.specs.Lines.{Made}
use Rattle.row_states.proofs.Turns.{all_stops, all_goes_on}
use Rattle.row_states.proofs.looped.all_failed.Goals as goal

pub returns-then-not-is_failed : goal.returns-then-not-is_failed
returns-then-not-is_failed c =
    let its = sym (c.is_failed.ensures ∙ ap is_failed c.phase.ensures) ∙ c.if-not-is_failed.true in
    sym (all_stops (λ (m : Made). is_failed m.own.node.phase) c.args.states.now c.loop-i.i c.state.result.now (c.get.ensures ∙ ap Some (sym c.state.ensures)) its)
    ∙ c.loop-i.invariant

pub loop-i-preserved : goal.loop-i-preserved
loop-i-preserved c =
    let its = sym (c.is_failed.ensures ∙ ap is_failed c.phase.ensures) ∙ c.if-not-is_failed.false in
    all_goes_on (λ (m : Made). is_failed m.own.node.phase) c.args.states.now c.loop-i.i c.state.result.now (c.get.ensures ∙ ap Some (sym c.state.ensures)) its
    ∙ c.loop-i.invariant
