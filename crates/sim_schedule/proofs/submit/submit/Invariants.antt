-- Each call so far failed, and left the history as it was.
use Rattle.std.proofs.Common.{◌≡◌, ◌≤◌}
use Rattle.sim_schedule.proofs.submit.submit.Given as goal

abbrev pub invariant-tries : goal.invariant-tries
invariant-tries g l = record {
  same : l.store.history ≡ l.fn.store.history;
  rising : g.O.Outage.faults l.fn.store.outage ≤ g.O.Outage.faults l.store.outage;
}
