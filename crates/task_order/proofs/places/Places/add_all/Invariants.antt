-- The words so far have the bits of both sets.
use Rattle.std.proofs.Common.{◌≡◌, ℕ, ◌<◌, ◌≤◌, get_or, vec_len}
use Rattle.std.specs.Prelude.{bit_or}
use Rattle.task_order.proofs.places.Places.add_all.Given as goal

abbrev pub invariant-loop-i : goal.invariant-loop-i
invariant-loop-i l = record {
  long : vec_len l.self.words ≡ vec_len l.initial.self.words;
  before : (k : ℕ) → k < l.i → get_or l.self.words.items k 0 ≡ bit_or (get_or l.initial.self.words.items k 0) (get_or l.other.words.items k 0);
  behind : (k : ℕ) → l.i ≤ k → get_or l.self.words.items k 0 ≡ get_or l.initial.self.words.items k 0;
}
