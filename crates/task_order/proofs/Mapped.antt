-- Lent names, and the names that they lend.
use Rattle.std.proofs.Common.{◌≡◌, ℕ, ◌||◌, ◌+◌, Bool, true, false, not, cond, List, [], ◌∷◌, ◌++◌, length, Some, None, refl, sym, ap, ◌∙◌, map, Bor}
use Rattle.std.specs.Prelude.{position, bytes_eq, nat_lt}
use Rattle.std.specs.List.{list_any, prefix_len, position_or_len}
use Rattle.std.proofs.lemmas.List.{map-append, length-map}
use Rattle.depends_expr.specs.Truth.{add_name}

front_mapped : {A B : Type 0} (f : A → B) (test : B → Bool) (xs : List A) → prefix_len (λ x. test (f x)) xs ≡ prefix_len test (map f xs)
front_mapped f test [] = refl
front_mapped f test (x ∷ xs) = ap (λ n. cond (test (f x)) (1 + n) 0) (front_mapped f test xs)

pub position_mapped : {A B : Type 0} (f : A → B) (test : B → Bool) (xs : List A) → position (λ x. test (f x)) xs ≡ position test (map f xs)
position_mapped f test xs =
    ap (λ n. cond (nat_lt n (length xs)) (Some n) None) (front_mapped f (λ y. not (test y)) xs)
    ∙ ap (λ n. cond (nat_lt (position_or_len test (map f xs)) n) (Some (position_or_len test (map f xs))) None) (sym (length-map xs f))

any_mapped : {A B : Type 0} (f : A → B) (test : B → Bool) (xs : List A) → list_any (λ x. test (f x)) xs ≡ list_any test (map f xs)
any_mapped f test [] = refl
any_mapped f test (x ∷ xs) = ap (λ b. test (f x) || b) (any_mapped f test xs)

map_cond : {A B : Type 0} (f : A → B) (b : Bool) (xs ys : List A) → map f (cond b xs ys) ≡ cond b (map f xs) (map f ys)
map_cond f true xs ys = refl
map_cond f false xs ys = refl

-- the names that a set lends when one more is in it
pub added_name : (keys : List (Bor (List ℕ))) (name : Bor (List ℕ)) → map (λ (k : Bor (List ℕ)). k.now) (cond (list_any (λ (k : Bor (List ℕ)). bytes_eq name.now k.now) keys) keys (keys ++ name ∷ [])) ≡ add_name (map (λ (k : Bor (List ℕ)). k.now) keys) name.now
added_name keys name =
    let f : Bor (List ℕ) → List ℕ = λ k. k.now in
    map_cond f (list_any (λ (k : Bor (List ℕ)). bytes_eq name.now k.now) keys) keys (keys ++ name ∷ [])
    ∙ ap (λ xs. cond (list_any (λ (k : Bor (List ℕ)). bytes_eq name.now k.now) keys) (map f keys) xs) (map-append f keys (name ∷ []))
    ∙ ap (λ b. cond b (map f keys) (map f keys ++ name.now ∷ [])) (any_mapped f (bytes_eq name.now) keys)
