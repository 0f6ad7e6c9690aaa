-- The end of the pod is the tick that it waits for.
use Rattle.std.proofs.Common.{sym, ◌∙◌, ap, subst}
use Rattle.std.specs.Prelude.{option_to_list}
use Rattle.history.specs.History.{clock_of}
use Rattle.next_step.specs.Ticks.{least_above}
use Rattle.sim_schedule.specs.declared.jobs.Job.{Job}
use Rattle.sim_schedule.specs.Inside.Jobs.{given, Waits}
use Rattle.sim_schedule.specs.Inside.Rosters.{ticks_of}
use Rattle.sim_schedule.proofs.due.next_by.Goals as goal

pub returns-in-Pod : goal.returns-in-Pod
returns-in-Pod g c = λ D waits.
    let w = subst (Waits D c.args.store.now.history) c.in-Pod.is waits in
    c.end_above.ensures
    ∙ ap (λ n. least_above n (option_to_list c.in-Pod.end)) c.clock.ensures
    ∙ ap (least_above (clock_of c.args.store.now.history)) (sym (c.pods_wait.ensures.next D c.args.store.now.history _ _ c.in-Pod.end w.0 w.1))
    ∙ ap (λ (j : Job). least_above (clock_of c.args.store.now.history) (ticks_of D c.args.store.now.history (given j))) (sym c.in-Pod.is)
