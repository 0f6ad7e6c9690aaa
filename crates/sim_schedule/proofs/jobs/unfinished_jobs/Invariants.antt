-- Those among the jobs so far.
use Rattle.law.specs.Documents.{Document}
use Rattle.law.specs.Justified.{IsLawful}
use Rattle.sim_schedule.specs.Inside.Jobs.{KnowsEnds, AreLeft}
use Rattle.sim_schedule.proofs.jobs.unfinished_jobs.Given as goal

abbrev pub invariant-loop-job : goal.invariant-loop-job
invariant-loop-job g l =
    (D : Document) → IsLawful D l.store.history → KnowsEnds D l.store.history l.yielded → AreLeft D l.store.history l.yielded l.left
