-- The names of the tasks so far.
use Rattle.std.proofs.Common.{◌≡◌, [], take}
use Rattle.depends_expr.specs.Truth.{add_names}
use Rattle.task_order.specs.Ancestors.{names}
use Rattle.task_order.proofs.names.table_of.Given as goal

abbrev pub invariant-loop-i : goal.invariant-loop-i
invariant-loop-i l = l.table ≡ add_names [] (names (take l.i l.tasks))
