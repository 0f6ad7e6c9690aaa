-- The places so far are gathered.
use Rattle.std.proofs.Common.{◌≡◌, ℕ, ◌==◌, ◌||◌, ◌+◌, ◌/◌, take, length, vec_len}
use Rattle.std.specs.List.{list_any}
use Rattle.task_order.specs.Inside.Rows.{has, bits_of}
use Rattle.task_order.proofs.places.gathered.Given as goal

abbrev pub invariant-loop-i : goal.invariant-loop-i
invariant-loop-i l = record {
  long : vec_len l.set.words ≡ length l.rows / 64 + 1;
  gathers : (p : ℕ) → has l.set.words.items p ≡ list_any (λ d. (p == d) || has (bits_of l.rows d) p) (take l.i l.waits);
}
