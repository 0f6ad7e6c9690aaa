-- What stands at a place of a list.
use Rattle.std.proofs.Common.{◌≡◌, ℕ, zero, suc, Bool, true, List, [], ◌∷◌, Option, IfSome, IsTrue, sym, subst}
use Rattle.std.specs.Prelude.{slice_get}
use Rattle.std.specs.List.{list_all}
use Rattle.std.proofs.lemmas.Bool.{and_parts}

-- what holds of all holds of the one at a place
all_at : {A : Type 0} (test : A → Bool) (xs : List A) (i : ℕ) → list_all test xs ≡ true → IfSome (slice_get xs i) (λ x. IsTrue (test x))
all_at test [] i all = tt
all_at test (x ∷ xs) zero all = (and_parts (test x) (list_all test xs) all).0
all_at test (x ∷ xs) (suc i) all = all_at test xs i (and_parts (test x) (list_all test xs) all).1

pub holds_at : {A : Type 0} (test : A → Bool) (xs : List A) (i : ℕ) (found : Option A) → found ≡ slice_get xs i → list_all test xs ≡ true → IfSome found (λ x. IsTrue (test x))
holds_at {A = A} test xs i found is all = subst (λ (o : Option A). IfSome o (λ x. IsTrue (test x))) (sym is) (all_at test xs i all)
