-- What is found and what is left make the whole.
use Rattle.std.proofs.Common.{◌≡◌, ◌≤◌, ◌-◌, ◌++◌, drop}
use Rattle.dag_stays.specs.ByTask.{by_task}
use Rattle.dag_stays.proofs.sought.by_task.Given as goal

abbrev pub invariant-loop-i : goal.invariant-loop-i
invariant-loop-i l = record {
  low : l.at ≤ l.i;
  told : l.found.items ++ by_task l.depth l.i (l.count - l.i) (drop l.at l.calls) ≡ by_task l.depth 0 l.count l.calls;
}
