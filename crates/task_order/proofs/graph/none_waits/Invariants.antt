-- So many empty rows.
use Rattle.std.proofs.Common.{◌≡◌, [], replicate}
use Rattle.task_order.proofs.graph.none_waits.Given as goal

abbrev pub invariant-loop : goal.invariant-loop
invariant-loop l = l.waits.items ≡ replicate l.counter []
