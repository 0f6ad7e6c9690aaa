-- What the places from here on reach is marked.
use Rattle.std.proofs.Common.{◌≡◌, ◌≤◌, vec_len, length}
use Rattle.dag_plan.proofs.Spreading.{Spread}
use Rattle.dag_plan.proofs.spread.marks_found.Given as goal

abbrev pub invariant-loop-left : goal.invariant-loop-left
invariant-loop-left l = record {
  within : l.left ≤ length l.order;
  long : vec_len l.marks ≡ length l.rows;
  spread : Spread l.rows l.order l.targets l.left l.marks.items;
}

abbrev pub decreases-loop-left : goal.decreases-loop-left
decreases-loop-left l = l.left
