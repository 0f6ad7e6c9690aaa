-- The first calls of a row, one after the other.
use Rattle.std.proofs.Common.{◌≡◌, ℕ, zero, suc, ◌+◌, ◌<◌, ◌≤◌, List, [], ◌∷◌, ◌++◌, take, Err, Some, sym, ap, ◌∙◌, arith}
use Rattle.std.specs.Prelude.{slice_get}
use Rattle.meaning.specs.Lines.{Made}
use Rattle.tree_state.specs.declared.refused.TreeRefused.{TreeRefused}
use Rattle.tree_state.specs.declared.refused.TreeRefused.TheVariants.{TooLarge, Memory}
use Rattle.tree_state.specs.Counting.{count, Gives}
use Rattle.row_states.specs.Rows.{count_row}
use Rattle.tree_walk.specs.Walking.{GivesRow}
use Rattle.tree_walk.proofs.Rooms.{count_row_then}

take_then : (xs : List Made) (i : ℕ) (x : Made) → slice_get xs i ≡ Some x → take i xs ++ x ∷ [] ≡ take (suc i) xs
take_then [] i x at = absurd (cc (at))
take_then (y ∷ xs) zero x at = let here : y ≡ x = cc in ap (λ (z : Made). z ∷ []) (sym here)
take_then (y ∷ xs) (suc i) x at = ap (λ (zs : List Made). y ∷ zs) (take_then xs i x at)

pub take_next : (xs : List Made) (i : ℕ) (x : Made) → slice_get xs i ≡ Some x → take i xs ++ x ∷ [] ≡ take (i + 1) xs
take_next xs i x at = let next : suc i ≡ i + 1 = omega arith in take_then xs i x at ∙ ap (λ (k : ℕ). take k xs) next

pub room_next : (xs : List Made) (i : ℕ) (x : Made) → slice_get xs i ≡ Some x → (before mid after : ℕ) → mid + count_row (take i xs) ≡ before → after + count x ≡ mid → after + count_row (take (i + 1) xs) ≡ before
room_next xs i x at before mid after taken more = omega (arith, ap count_row (sym (take_next xs i x at)), count_row_then (take i xs) x, taken, more)

-- the calls up to one of the first are no more than these
up_to : (xs : List Made) (n i : ℕ) (x : Made) → slice_get xs i ≡ Some x → i < n → count_row (take i xs) + count x ≤ count_row (take n xs)
up_to [] n i x at lt = absurd (cc (at))
up_to (y ∷ xs) zero i x at lt = absurd (omega (arith, lt))
up_to (y ∷ xs) (suc n) zero x at lt = let here : y ≡ x = cc in omega (arith, ap count here)
up_to (y ∷ xs) (suc n) (suc i) x at lt = omega (arith, up_to xs n i x at (omega (arith, lt)))

pub row_fails_at : (xs : List Made) (n i : ℕ) (x : Made) → slice_get xs i ≡ Some x → i < n → (before mid after : ℕ) (e : TreeRefused) → mid + count_row (take i xs) ≡ before → Gives mid after (Err e) x → GivesRow before after (Err e) (take n xs)
row_fails_at xs n i x at lt before mid after TooLarge taken fails = omega (arith, up_to xs n i x at lt, taken, fails)
row_fails_at xs n i x at lt before mid after Memory taken fails = tt
