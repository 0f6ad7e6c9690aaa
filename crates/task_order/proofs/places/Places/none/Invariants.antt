-- So many empty words.
use Rattle.std.proofs.Common.{◌≡◌, replicate}
use Rattle.task_order.proofs.places.Places.none.Given as goal

abbrev pub invariant-loop : goal.invariant-loop
invariant-loop l = l.words.items ≡ replicate l.counter 0
