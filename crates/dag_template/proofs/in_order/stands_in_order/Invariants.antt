-- The tasks that were gone through are seen as they stand.
use Rattle.std.proofs.Common.{◌≡◌, length, take}
use Rattle.std.specs.List.{All}
use Rattle.dag_template.specs.Order.{sights}
use Rattle.dag_template.proofs.Ordered.{Settled}
use Rattle.dag_template.proofs.in_order.stands_in_order.Given as goal

abbrev pub invariant-loop-k : goal.invariant-loop-k
invariant-loop-k l = record {
  long : length l.stands.items ≡ length l.dag.tasks;
  settled : All (Settled (sights l.dag l.tasks) l.stands.items) (take l.k l.plan.order);
}
