-- The next timer of the workflow that stands.
use Rattle.std.proofs.Common.{sym, ap, ◌∙◌}
use Rattle.std.specs.Option.{option_copied}
use Rattle.sim_schedule.proofs.Dues.{timers_of}
use Rattle.sim_schedule.proofs.due.next_timer.Goals as goal

pub returns-in-Some : goal.returns-in-Some
returns-in-Some g c =
    timers_of _ _ c.in-Some.object.now c.state.result.now _ c.next_timer.result c.clock.ensures c.state.ensures
    (sym (ap option_copied c.in-Some.is) ∙ c.in_ok-workflow_at.ensures) c.next_timer.ensures
