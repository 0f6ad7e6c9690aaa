-- The sooner of both.
use Rattle.std.proofs.Common.{ap, ◌∙◌}
use Rattle.tree_eval.proofs.Firsts.{both_timers}
use Rattle.meaning.specs.Lines.{Made, lines_in}
use Rattle.tree_state.proofs.Readings.{timer_among}
use Rattle.tree_eval.proofs.tops.Tops.next_timer.Goals as goal

pub returns-in-Some : goal.returns-in-Some
returns-in-Some c =
    c.sooner.ensures
    ∙ both_timers c.args.self.now c.args.clock c.next_timer-in-Some.result c.next_timer-in-Some-2.result c.in-Some.exit (c.next_timer-in-Some.ensures ∙ ap (λ (b : Made). timer_among c.args.clock (lines_in b)) c.state-in-Some.ensures) c.in-Some.is c.next_timer-in-Some-2.ensures
