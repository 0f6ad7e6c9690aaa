-- The next tick of the jobs so far.
use Rattle.std.proofs.Common.{◌≡◌, take}
use Rattle.std.specs.List.{flat_map}
use Rattle.history.specs.History.{clock_of}
use Rattle.law.specs.Documents.{Document}
use Rattle.next_step.specs.Ticks.{least_above}
use Rattle.sim_schedule.specs.Inside.Jobs.{given, AllWait}
use Rattle.sim_schedule.specs.Inside.Rosters.{ticks_of}
use Rattle.sim_schedule.proofs.due.next_of.Given as goal

abbrev pub invariant-loop-job : goal.invariant-loop-job
invariant-loop-job g l =
    (D : Document) → AllWait D l.store.history l.jobs →
    l.next ≡ least_above (clock_of l.store.history) (flat_map (λ j. ticks_of D l.store.history (given j)) (take l.job-index l.jobs))
