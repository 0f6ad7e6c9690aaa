-- What holds of each element of a list: of the one that is found, and as a test of the list.
use Rattle.std.proofs.Common.{◌≡◌, Bool, true, false, cond, List, [], ◌∷◌, Option, Some, refl, subst}
use Rattle.std.specs.Prelude.{All, IsTrue}
use Rattle.std.specs.List.{list_all, find}
use Rattle.std.proofs.lemmas.Bool.{and_parts, and_from}
use Rattle.std.proofs.lemmas.List.Elements.{All-head, All-tail, All-nil, All-cons}

found_by : {X : Type 0} (P : X → Type 0) (y : X) (rest : Option X) (x : X) → P y → (rest ≡ Some x → P x) → (b : Bool) → cond b (Some y) rest ≡ Some x → P x
found_by P y rest x here later true e = let same : y ≡ x = cc in subst P same here
found_by P y rest x here later false e = later e

pub All-found : {X : Type 0} (P : X → Type 0) (test : X → Bool) (xs : List X) (x : X) → All P xs → find test xs ≡ Some x → P x
All-found P test [] x all e = absurd cc
All-found P test (y ∷ ys) x all e =
    found_by P y (find test ys) x (All-head P y ys all) (All-found P test ys x (All-tail P y ys all)) (test y) e

pub list_all-from_All : {X : Type 0} (test : X → Bool) (xs : List X) → All (λ x. IsTrue (test x)) xs → IsTrue (list_all test xs)
list_all-from_All test [] all = refl
list_all-from_All test (x ∷ xs) all =
    and_from (test x) (list_all test xs) (All-head (λ x. IsTrue (test x)) x xs all) (list_all-from_All test xs (All-tail (λ x. IsTrue (test x)) x xs all))

pub All-from_list_all : {X : Type 0} (test : X → Bool) (xs : List X) → IsTrue (list_all test xs) → All (λ x. IsTrue (test x)) xs
All-from_list_all test [] all = All-nil (λ x. IsTrue (test x))
All-from_list_all test (x ∷ xs) all =
    let parts = and_parts (test x) (list_all test xs) all in
    All-cons (λ x. IsTrue (test x)) x xs parts.0 (All-from_list_all test xs parts.1)
