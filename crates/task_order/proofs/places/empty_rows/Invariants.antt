-- So many empty sets.
use Rattle.std.proofs.Common.{◌≡◌, ◌+◌, ◌/◌, vec_len}
use Rattle.std.specs.List.{All}
use Rattle.task_order.proofs.places.empty_rows.Given as goal

abbrev pub invariant-loop : goal.invariant-loop
invariant-loop l = record {
  size : vec_len l.rows ≡ l.counter;
  long : All (λ set. vec_len set.words ≡ l.size / 64 + 1) l.rows.items;
}
