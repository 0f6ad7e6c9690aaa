-- The places of the names so far are added.
use Rattle.std.proofs.Common.{◌≡◌, ◌++◌, take}
use Rattle.depends_expr.specs.Truth.{names_of}
use Rattle.task_order.specs.Orders.{places}
use Rattle.task_order.proofs.graph.add_named.Given as goal

abbrev pub invariant-loop-i : goal.invariant-loop-i
invariant-loop-i l = l.row ≡ l.initial.row ++ places l.table (take l.i (names_of l.depends))
