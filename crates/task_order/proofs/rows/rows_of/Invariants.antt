-- The rows of the tasks so far.
use Rattle.std.proofs.Common.{◌≡◌, map, take}
use Rattle.task_order.specs.Orders.{places, waited}
use Rattle.task_order.proofs.rows.rows_of.Given as goal

abbrev pub invariant-loop-i : goal.invariant-loop-i
invariant-loop-i l = l.rows ≡ map (λ t. places l.table (waited t)) (take l.i l.tasks)
