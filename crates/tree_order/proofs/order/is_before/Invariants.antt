-- What is left of both paths tells which stands before the other.
use Rattle.std.proofs.Common.{◌≡◌, ◌≤◌, length, drop}
use Rattle.tree_order.specs.Order.{path_before}
use Rattle.tree_order.proofs.order.is_before.Given as goal

abbrev pub invariant-loop-position : goal.invariant-loop-position
invariant-loop-position l =
    (l.position ≤ length l.path) × (path_before (drop l.position l.path) (drop l.position l.other) ≡ path_before l.path l.other)
