-- The rows of the tasks so far.
use Rattle.std.proofs.Common.{◌≡◌, [], take, fold, replicate, length}
use Rattle.task_order.specs.Inside.Graphs.{added}
use Rattle.task_order.proofs.graph.waits_of.Given as goal

abbrev pub invariant-loop-i : goal.invariant-loop-i
invariant-loop-i l = l.waits.items ≡ fold (added l.table) (replicate (length l.table) []) (take l.i l.tasks)
