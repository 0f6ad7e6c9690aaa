-- The sets of the places so far are filled.
use Rattle.std.proofs.Common.{◌≡◌, ◌+◌, ◌/◌, length, vec_len}
use Rattle.std.specs.List.{All}
use Rattle.task_order.proofs.Reached.{ExactSoFar}
use Rattle.task_order.proofs.places.places_waited_for.Given as goal

abbrev pub invariant-loop-k : goal.invariant-loop-k
invariant-loop-k l = record {
  size : vec_len l.rows ≡ length l.waits;
  long : All (λ set. vec_len set.words ≡ length l.waits / 64 + 1) l.rows.items;
  exact : ExactSoFar l.waits l.rows.items l.order l.k;
}
