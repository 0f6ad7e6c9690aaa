-- The positions that are left, and what stands at their ends.
use Rattle.std.proofs.Common.{◌-◌, ◌≡◌, length, ◌+◌, ◌≤◌}
use Rattle.dag_stays.proofs.Halving.{BeginsBehind, EndsBefore}
use Rattle.dag_stays.proofs.sought.call_of_task.Given as goal

abbrev pub invariant-loop-low : goal.invariant-loop-low
invariant-loop-low l = record {
  depth : l.depth ≡ length l.dag.own.node.path.sels;
  high : l.high ≤ l.j + 1;
  begins : BeginsBehind l.dag.parts (length l.dag.own.node.path.sels) l.j l.low;
  ends : EndsBefore l.dag.parts (length l.dag.own.node.path.sels) l.j l.high;
}

abbrev pub decreases-loop-low : goal.decreases-loop-low
decreases-loop-low l = l.high - l.low
