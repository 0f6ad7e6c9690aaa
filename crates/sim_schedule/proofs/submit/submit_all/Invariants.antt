-- The workflows that are left are to be submitted.
use Rattle.std.proofs.Common.{◌≡◌, ◌≤◌, drop}
use Rattle.wf_object.specs.Documents.{law_of}
use Rattle.sim_schedule.specs.Sweeping.{GoesOn, with_submissions}
use Rattle.sim_schedule.proofs.submit.submit_all.Given as goal

abbrev pub invariant-workflows : goal.invariant-workflows
invariant-workflows g l = record {
  on : GoesOn (law_of l.document) l.fn.store.history l.store.history;
  rising : g.O.Outage.faults l.fn.store.outage ≤ g.O.Outage.faults l.store.outage;
  left : with_submissions l.store.history (drop l.i l.document.workflows) ≡ with_submissions l.fn.store.history l.document.workflows;
}
