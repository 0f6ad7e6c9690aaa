-- Fronts of lists.
use Rattle.std.specs.Prelude.{◌≡◌, ℕ, zero, suc, ◌+◌, List, [], ◌∷◌, ◌++◌, take, slice_get, Some}
use Rattle.std.proofs.Common.{ap, sym, ◌∙◌, add-one}
use Rattle.connectives.proofs.Options.{none_some, some_same}

pub got_take : {A : Type 0} (xs : List A) (i : ℕ) (x : A) → slice_get xs i ≡ Some x → take (suc i) xs ≡ take i xs ++ x ∷ []
got_take [] i x p = absurd (none_some p)
got_take (y ∷ ys) zero x p = ap (λ z. z ∷ []) (some_same p)
got_take (y ∷ ys) (suc i) x p = ap (λ zs. y ∷ zs) (got_take ys i x p)

pub one_taken : {A : Type 0} (xs zs : List A) (i : ℕ) (x : A) → slice_get xs i ≡ Some x → zs ≡ take i xs ++ x ∷ [] → zs ≡ take (i + 1) xs
one_taken xs zs i x p q = q ∙ sym (got_take xs i x p) ∙ ap (λ n. take n xs) (sym (add-one i))
