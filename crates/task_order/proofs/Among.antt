-- What stands in a list, by recursion on the list.
use Rattle.std.proofs.Common.{◌≡◌, ◌≢◌, ◌⊎◌, ℕ, zero, suc, ◌==◌, Bool, true, false, ◌||◌, List, [], ◌∷◌, ◌++◌, Option, Some, None, refl, sym, ap, ◌∙◌, subst, inl, inr, arith, map}
use Rattle.std.specs.Prelude.{bytes_eq}
use Rattle.std.specs.List.{Contains, list_any, filter_map, cons_option}
use Rattle.std.proofs.lemmas.Bool.{cases_Bool, eqb-true, eqb-false}
use Rattle.std.proofs.lemmas.Slice.Eq.{bytes_eq-Decides}

abbrev pub Among : {A : Type 0} → A → List A → Type 0
Among x [] = ⊥
Among x (y ∷ ys) = (y ≡ x) ⊎ Among x ys

pub among_from : {A : Type 0} (xs : List A) (x : A) → Contains xs x → Among x xs
among_from [] x (k, below, is) = absurd (omega arith)
among_from (y ∷ ys) x (zero, below, is) = inl is
among_from (y ∷ ys) x (suc k, below, is) = inr (among_from ys x (k, omega arith, is))

pub contains_from : {A : Type 0} (xs : List A) (x : A) → Among x xs → Contains xs x
contains_from [] x among = absurd among
contains_from (y ∷ ys) x (inl is) = (0, omega arith, is)
contains_from (y ∷ ys) x (inr later) =
    let (k, below, is) = contains_from ys x later in
    (suc k, omega arith, is)

pub among_left : {A : Type 0} (xs ys : List A) (x : A) → Among x xs → Among x (xs ++ ys)
among_left [] ys x among = absurd among
among_left (z ∷ zs) ys x (inl is) = inl is
among_left (z ∷ zs) ys x (inr later) = inr (among_left zs ys x later)

pub among_right : {A : Type 0} (xs ys : List A) (x : A) → Among x ys → Among x (xs ++ ys)
among_right [] ys x among = among
among_right (z ∷ zs) ys x among = inr (among_right zs ys x among)

pub among_either : {A : Type 0} (xs ys : List A) (x : A) → Among x (xs ++ ys) → Among x xs ⊎ Among x ys
among_either [] ys x among = inr among
among_either (z ∷ zs) ys x (inl is) = inl (inl is)
among_either (z ∷ zs) ys x (inr later) =
    elim (among_either zs ys x later) [
      | inl left ↦ inl (inr left)
      | inr right ↦ inr right
    ]

pub among_map : {A B : Type 0} (f : A → B) (xs : List A) (x : A) → Among x xs → Among (f x) (map f xs)
among_map f [] x among = absurd among
among_map f (y ∷ ys) x (inl is) = inl (ap f is)
among_map f (y ∷ ys) x (inr later) = inr (among_map f ys x later)

pub among_mapped : {A B : Type 0} (f : A → B) (xs : List A) (b : B) → Among b (map f xs) → (x : A) × Among x xs × (f x ≡ b)
among_mapped f [] b among = absurd among
among_mapped f (y ∷ ys) b (inl is) = (y, inl refl, is)
among_mapped f (y ∷ ys) b (inr later) =
    let (x, among, is) = among_mapped f ys b later in
    (x, inr among, is)

-- what a list gives by a function that may give nothing
pub among_given : {A B : Type 0} (h : A → Option B) (xs : List A) (x : A) (b : B) → Among x xs → h x ≡ Some b → Among b (filter_map h xs)
among_given h [] x b among gives = absurd among
among_given h (y ∷ ys) x b (inl is) gives =
    subst (λ o. Among b (cons_option o (filter_map h ys))) (sym (ap h is ∙ gives)) (inl refl)
among_given {A = A} {B = B} h (y ∷ ys) x b (inr later) gives = behind (h y) (among_given h ys x b later gives)
  where
    behind : (o : Option B) → Among b (filter_map h ys) → Among b (cons_option o (filter_map h ys))
    behind None among = among
    behind (Some c) among = inr among

pub given_from : {A B : Type 0} (h : A → Option B) (xs : List A) (b : B) → Among b (filter_map h xs) → (x : A) × Among x xs × (h x ≡ Some b)
given_from h [] b among = absurd among
given_from {A = A} {B = B} h (y ∷ ys) b among = split (h y) refl (λ later. given_from h ys b later) among
  where
    more : ((x : A) × Among x ys × (h x ≡ Some b)) → (x : A) × Among x (y ∷ ys) × (h x ≡ Some b)
    more (x, in_ys, gives) = (x, inr in_ys, gives)

    split : (o : Option B) → h y ≡ o → (Among b (filter_map h ys) → (x : A) × Among x ys × (h x ≡ Some b)) → Among b (cons_option o (filter_map h ys)) → (x : A) × Among x (y ∷ ys) × (h x ≡ Some b)
    split None is from_ys among = more (from_ys among)
    split (Some c) is from_ys (inl same) = (y, inl refl, is ∙ ap (λ z. Some z) same)
    split (Some c) is from_ys (inr later) = more (from_ys later)

-- ---- tests of a list

or_cases : (a b : Bool) → (a || b) ≡ true → (a ≡ true) ⊎ (b ≡ true)
or_cases true b e = inl refl
or_cases false b e = inr e

or_left : (a b : Bool) → a ≡ true → (a || b) ≡ true
or_left true b e = refl
or_left false b e = absurd cc

or_right : (a b : Bool) → b ≡ true → (a || b) ≡ true
or_right true b e = refl
or_right false b e = e

pub any_from : {A : Type 0} (test : A → Bool) (xs : List A) (x : A) → Among x xs → test x ≡ true → list_any test xs ≡ true
any_from test [] x among passes = absurd among
any_from test (y ∷ ys) x (inl is) passes = or_left (test y) (list_any test ys) (ap test is ∙ passes)
any_from test (y ∷ ys) x (inr later) passes = or_right (test y) (list_any test ys) (any_from test ys x later passes)

pub any_at : {A : Type 0} (test : A → Bool) (xs : List A) → list_any test xs ≡ true → (x : A) × Among x xs × (test x ≡ true)
any_at test [] e = absurd cc
any_at {A = A} test (y ∷ ys) e =
    elim (or_cases (test y) (list_any test ys) e) [
      | inl here ↦ (y, inl refl, here)
      | inr there ↦ later (any_at test ys there)
    ]
  where
    later : ((x : A) × Among x ys × (test x ≡ true)) → (x : A) × Among x (y ∷ ys) × (test x ≡ true)
    later (x, among, passes) = (x, inr among, passes)

pub same_text : (a b : List ℕ) → bytes_eq a b ≡ true → a ≡ b
same_text a b = (bytes_eq-Decides a b).0

pub text_same : (a b : List ℕ) → a ≡ b → bytes_eq a b ≡ true
text_same a b = (bytes_eq-Decides a b).1

pub listed : (names : List (List ℕ)) (name : List ℕ) → list_any (bytes_eq name) names ≡ true → Among name names
listed names name e =
    let (other, among, same) = any_at (bytes_eq name) names e in
    subst (λ n. Among n names) (sym (same_text name other same)) among

pub is_listed : (names : List (List ℕ)) (name : List ℕ) → Among name names → list_any (bytes_eq name) names ≡ true
is_listed names name among = any_from (bytes_eq name) names name among (text_same name name refl)

pub same_or : (a b : ℕ) → (a ≡ b) ⊎ (a ≢ b)
same_or a b =
    elim (cases_Bool (a == b)) [
      | inl same ↦ inl (eqb-true a b same)
      | inr differ ↦ inr (eqb-false a b differ)
    ]
