-- What the run keeps from its submissions on.
use Rattle.std.proofs.Common.{◌≤◌}
use Rattle.law.specs.Justified.{IsLawful}
use Rattle.wf_object.specs.Documents.{law_of}
use Rattle.sim_schedule.specs.Sweeping.{GoesOn}
use Rattle.sim_schedule.specs.Inside.Restings.{KnowsRest}
use Rattle.sim_schedule.specs.Inside.Rosters.{Follows}
use Rattle.sim_schedule.proofs.Submitting.{Kept}
use Rattle.sim_schedule.proofs.whole_run.sweep.Given as goal

abbrev pub invariant-rounds : goal.invariant-rounds
invariant-rounds g l = record {
  follows : Follows (law_of l.document) l.store.history l.roster;
  resting : KnowsRest (law_of l.document) l.store.history l.roster.resting;
  on : GoesOn (law_of l.document) l.fn.store.history l.store.history;
  rising : g.O.Outage.faults l.fn.store.outage ≤ g.O.Outage.faults l.store.outage;
  kept : IsLawful (law_of l.document) l.fn.store.history → Kept (law_of l.document) l.fn.store.history l.store.history;
}
