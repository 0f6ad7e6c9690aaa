-- The first call that is not finished decides.
use Rattle.std.proofs.Common.{Some, sym, ap, ◌∙◌}
use Rattle.meaning.specs.Lines.{Made}
use Rattle.row_states.proofs.Turns.{all_stops, all_goes_on}
use Rattle.row_states.proofs.rows.are_finished.Goals as goal

pub returns-then-not-is_finished : goal.returns-then-not-is_finished
returns-then-not-is_finished c =
    sym (all_stops (λ (m : Made). m.own.finished) c.args.states.now c.loop-i.i c.state.result.now (c.get.ensures ∙ ap Some (sym c.state.ensures))
    (sym c.is_finished.ensures ∙ c.if-not-is_finished.true))
    ∙ c.loop-i.invariant

pub loop-i-preserved : goal.loop-i-preserved
loop-i-preserved c =
    all_goes_on (λ (m : Made). m.own.finished) c.args.states.now c.loop-i.i c.state.result.now (c.get.ensures ∙ ap Some (sym c.state.ensures))
    (sym c.is_finished.ensures ∙ c.if-not-is_finished.false)
    ∙ c.loop-i.invariant
