-- The jobs so far are done.
use Rattle.std.proofs.Common.{◌≤◌, List, ◌++◌, map, take}
use Rattle.law.specs.Contents.{Story}
use Rattle.law.specs.Justified.{IsLawful}
use Rattle.next_step.specs.Hands.{Given}
use Rattle.run_laws.specs.Rounds.{JobsDone}
use Rattle.wf_object.specs.Documents.{law_of}
use Rattle.sim_schedule.specs.Inside.Jobs.{given}
use Rattle.sim_schedule.specs.Sweeping.{GoesOn}
use Rattle.sim_schedule.specs.Inside.Restings.{KnowsRest}
use Rattle.sim_schedule.proofs.round.do_jobs.Given as goal

abbrev pub invariant-loop-job : goal.invariant-loop-job
invariant-loop-job g l = record {
  on : GoesOn (law_of l.document) l.fn.store.history l.store.history;
  rising : g.O.Outage.faults l.fn.store.outage ≤ g.O.Outage.faults l.store.outage;
  resting : KnowsRest (law_of l.document) l.store.history l.resting;
  done :
      (start : Story) (before : List Given) → IsLawful (law_of l.document) l.fn.store.history →
      JobsDone (law_of l.document) start before l.fn.store.history l.fn.round.full l.fn.round.failed →
      JobsDone (law_of l.document) start (before ++ map given (take l.job-index l.jobs)) l.store.history l.round.full l.round.failed;
}
