-- The first item that Succeeded decides.
use Rattle.std.proofs.Common.{Some, sym, ap, ◌∙◌}
use Rattle.tree_types.specs.Phases.{is_succeeded}
use Rattle.meaning.specs.Lines.{Made}
use Rattle.row_states.proofs.Turns.{any_stops, any_goes_on}
use Rattle.row_states.proofs.looped.any_succeeded.Goals as goal

pub returns-then-is_succeeded : goal.returns-then-is_succeeded
returns-then-is_succeeded c =
    let its = sym (c.is_succeeded.ensures ∙ ap is_succeeded c.phase.ensures) ∙ c.if-is_succeeded.true in
    sym (any_stops (λ (m : Made). is_succeeded m.own.node.phase) c.args.states.now c.loop-i.i c.state.result.now (c.get.ensures ∙ ap Some (sym c.state.ensures)) its)
    ∙ c.loop-i.invariant

pub loop-i-preserved : goal.loop-i-preserved
loop-i-preserved c =
    let its = sym (c.is_succeeded.ensures ∙ ap is_succeeded c.phase.ensures) ∙ c.if-is_succeeded.false in
    any_goes_on (λ (m : Made). is_succeeded m.own.node.phase) c.args.states.now c.loop-i.i c.state.result.now (c.get.ensures ∙ ap Some (sym c.state.ensures)) its
    ∙ c.loop-i.invariant
