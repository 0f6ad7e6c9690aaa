-- So many steps of the schedule were played.
use Rattle.std.proofs.Common.{◌≡◌, length, take}
use Rattle.wf_object.specs.Documents.{law_of}
use Rattle.sim_schedule.specs.Sweeping.{GoesOn}
use Rattle.sim_schedule.proofs.Following.{Sofar}
use Rattle.sim_schedule.proofs.simulated.follow.Given as goal

abbrev pub invariant-steps : goal.invariant-steps
invariant-steps g l = record {
  on : GoesOn (law_of l.document) l.fn.store.history l.store.history;
  count : length l.hands.items ≡ l.document.schedule.workers;
  sofar :
      Sofar (law_of l.document) l.document.schedule (take l.i l.document.schedule.steps) l.fn.store.history
      (g.O.Outage.faults l.fn.store.outage) l.store.history l.hands.items (g.O.Outage.faults l.store.outage);
}
