-- Lists of which one goes on from another, and what stands at home.
use Rattle.std.proofs.Common.{◌≡◌, ℕ, ◌<◌, ◌≤◌, Bool, true, false, cond, List, [], ◌∷◌, ◌++◌, length, refl, sym, ◌∙◌, ap, ap₂, arith, append_assoc}
use Rattle.std.specs.Prelude.{Some, nat_lt}
use Rattle.std.proofs.lemmas.Bool.Decides.{nat_tests}
use Rattle.std.proofs.lemmas.List.{append-nil, length-append}
use mathlib.Core.Option.{some, none}
use Rattle.store_turn.specs.Lists.{StartsWith, longer}

pub some_one : {A : Type 0} (x y : A) → some x ≡ some y → x ≡ y
some_one x y e = cc

pub Some_one : {A : Type 0} (x y : A) → Some x ≡ Some y → x ≡ y
Some_one x y e = cc

pub none_some : {A : Type 0} (x : A) → none ∷ [] ≡ some x ∷ [] → ⊥
none_some x e = cc

pub some_none : {A : Type 0} (x : A) → some x ∷ [] ≡ none ∷ [] → ⊥
some_none x e = cc

pub home_one : {A : Type 0} (x y : A) → some x ∷ [] ≡ some y ∷ [] → x ≡ y
home_one x y e = cc

pub true_false : true ≡ false → ⊥
true_false e = cc

pub starts_here : {E : Type 0} (xs : List E) → StartsWith xs xs
starts_here xs = record { rest = []; goes_on = sym (append-nil xs) }

pub starts_none : {E : Type 0} (xs : List E) → StartsWith xs []
starts_none xs = record { rest = xs; goes_on = refl }

pub starts_length : {E : Type 0} (xs ys : List E) → StartsWith xs ys → length ys ≤ length xs
starts_length xs ys s = let e : length xs ≡ length (ys ++ s.rest) = ap length s.goes_on in omega (arith, length-append ys s.rest)

tails : {E : Type 0} (x y : E) (xs ys : List E) → x ∷ xs ≡ y ∷ ys → xs ≡ ys
tails x y xs ys e = cc

heads : {E : Type 0} (x y : E) (xs ys : List E) → x ∷ xs ≡ y ∷ ys → x ≡ y
heads x y xs ys e = cc

before_it : {E : Type 0} (xs ys r q : List E) → xs ++ r ≡ ys ++ q → length xs ≤ length ys → StartsWith ys xs
before_it [] ys r q e h = starts_none ys
before_it (x ∷ xs) [] r q e h = absurd (omega arith)
before_it (x ∷ xs) (y ∷ ys) r q e h =
    let on = before_it xs ys r q (tails x y (xs ++ r) (ys ++ q) e) (omega arith) in
    record { rest = on.rest; goes_on = ap₂ (λ a l. a ∷ l) (sym (heads x y (xs ++ r) (ys ++ q) e)) on.goes_on }

-- of two beginnings of one list the longer begins with the shorter
two_starts : {E : Type 0} (l xs ys : List E) → StartsWith l xs → StartsWith l ys → length xs ≤ length ys → StartsWith ys xs
two_starts l xs ys a b h = before_it xs ys a.rest b.rest (sym a.goes_on ∙ b.goes_on) h

pub not_more : (n m : ℕ) → nat_lt n m ≡ false → m ≤ n
not_more n m e = grind (arith, nat_tests)

pub is_more : (n m : ℕ) → nat_lt n m ≡ true → n < m
is_more n m e = grind (arith, nat_tests)

longer_by : {E : Type 0} (l xs ys : List E) → StartsWith l xs → StartsWith l ys → (b : Bool) → nat_lt (length xs) (length ys) ≡ b → StartsWith (cond b ys xs) xs × StartsWith (cond b ys xs) ys
longer_by l xs ys p q true e = (two_starts l xs ys p q (let h = is_more (length xs) (length ys) e in omega arith), starts_here ys)
longer_by l xs ys p q false e = (starts_here xs, two_starts l ys xs q p (not_more (length xs) (length ys) e))

pub longer_starts : {E : Type 0} (l xs ys : List E) → StartsWith l xs → StartsWith l ys → StartsWith (longer xs ys) xs × StartsWith (longer xs ys) ys
longer_starts l xs ys p q = longer_by l xs ys p q (nat_lt (length xs) (length ys)) refl

pub starts_on : {E : Type 0} (xs ys zs : List E) → StartsWith ys xs → StartsWith zs ys → StartsWith zs xs
starts_on xs ys zs a b = record { rest = a.rest ++ b.rest; goes_on = b.goes_on ∙ ap (λ l. l ++ b.rest) a.goes_on ∙ append_assoc xs a.rest b.rest }

no_rest : {E : Type 0} (xs more : List E) → length (xs ++ more) ≤ length xs → xs ++ more ≡ xs
no_rest xs [] h = append-nil xs
no_rest xs (x ∷ more) h = absurd (omega (arith, length-append xs (x ∷ more)))

-- a list that goes on from another and is no longer is the same
pub same_list : {E : Type 0} (xs ys : List E) → StartsWith ys xs → length ys ≤ length xs → ys ≡ xs
same_list xs ys s h = s.goes_on ∙ no_rest xs s.rest (let e : length ys ≡ length (xs ++ s.rest) = ap length s.goes_on in omega arith)
