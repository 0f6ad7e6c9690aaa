-- Sums over all views, and which views there are after a step.
use Rattle.std.proofs.Common.{◌≡◌, ◌≢◌, ℕ, ◌+◌, ◌≤◌, List, [], ◌∷◌, ◌++◌, set, refl, sym, ◌∙◌, ap, arith, subst, inl, inr, suc, zero}
use Rattle.std.specs.Prelude.{sum_by}
use Rattle.std.proofs.lemmas.List.Sums.{sum_by-cons}
use mathlib.Core.Option.{some}
use lib.ListN.{get_elem?}
use mathlib.Core.Logic.{dite}
use native.Mathlib.Decide.{ℕ_discrete}
use Rattle.atomic_table.proofs.Lists.{at_set, at_snoc, set_else}
use Rattle.store_turn.specs.Tickets.{SomeSeat}

some_one : {A : Type 0} (x y : A) → some x ≡ some y → x ≡ y
some_one x y e = cc

module _ {A : Type 0} where
  pub sum_set : (f : A → ℕ) (xs : List A) (i : ℕ) (v w : A) → get_elem? xs i ≡ some v → sum_by f (set xs i w) + f v ≡ sum_by f xs + f w
  sum_set f [] i v w e = cc
  sum_set f (x ∷ xs) zero v w e =
      let k : f x ≡ f v = ap f (some_one x v e) in
      rw (sum_by-cons f x xs, sum_by-cons f w xs) (omega arith)
  sum_set f (x ∷ xs) (suc i) v w e =
      let later = sum_set f xs i v w e in
      rw (sum_by-cons f x xs, sum_by-cons f x (set xs i w)) (omega arith)

  pub sum_there : (f : A → ℕ) (xs : List A) (i : ℕ) (v : A) → get_elem? xs i ≡ some v → f v ≤ sum_by f xs
  sum_there f [] i v e = cc
  sum_there f (x ∷ xs) zero v e = let k : f x ≡ f v = ap f (some_one x v e) in rw (sum_by-cons f x xs) (omega arith)
  sum_there f (x ∷ xs) (suc i) v e = let later = sum_there f xs i v e in rw (sum_by-cons f x xs) (omega arith)

  pub sum_two : (f : A → ℕ) (xs : List A) (i j : ℕ) (v w : A) → i ≢ j → get_elem? xs i ≡ some v → get_elem? xs j ≡ some w → f v + f w ≤ sum_by f xs
  sum_two f [] i j v w n e d = cc
  sum_two f (x ∷ xs) zero zero v w n e d = absurd (n refl)
  sum_two f (x ∷ xs) zero (suc j) v w n e d =
      let k : f x ≡ f v = ap f (some_one x v e) in
      let h = sum_there f xs j w d in
      rw (sum_by-cons f x xs) (omega arith)
  sum_two f (x ∷ xs) (suc i) zero v w n e d =
      let k : f x ≡ f w = ap f (some_one x w d) in
      let h = sum_there f xs i v e in
      rw (sum_by-cons f x xs) (omega arith)
  sum_two f (x ∷ xs) (suc i) (suc j) v w n e d =
      let later = sum_two f xs i j v w (λ q. n (ap suc q)) e d in
      rw (sum_by-cons f x xs) (omega arith)

  pub sum_le : (f g : A → ℕ) (xs : List A) → ((j : ℕ) (x : A) → get_elem? xs j ≡ some x → f x ≤ g x) → sum_by f xs ≤ sum_by g xs
  sum_le f g [] h = omega arith
  sum_le f g (x ∷ xs) h =
      let first = h 0 x refl in
      let later = sum_le f g xs (λ j y e. h (suc j) y e) in
      rw (sum_by-cons f x xs, sum_by-cons g x xs) (omega arith)

  -- what holds of each view after one has changed, and after one has come besides
  pub each_set : (P : ℕ → A → Type 0) (xs : List A) (i : ℕ) (w : A) → ((j : ℕ) (x : A) → j ≢ i → get_elem? xs j ≡ some x → P j x) → P i w → (j : ℕ) (x : A) → get_elem? (set xs i w) j ≡ some x → P j x
  each_set P xs i w all pw j x e = elim (at_set xs i j w x e) as (λ _. P j x) [
    | inl b ↦ subst (λ k. P k x) (sym b.0) (subst (P i) b.1 pw)
    | inr b ↦ all j x b.0 b.1
  ]

  pub each_split : (P : ℕ → A → Type 0) (xs : List A) (i : ℕ) (w u : A) → ((j : ℕ) (x : A) → get_elem? xs j ≡ some x → P j x) → P i w → ((j : ℕ) → P j u) → (j : ℕ) (x : A) → get_elem? (set xs i w ++ u ∷ []) j ≡ some x → P j x
  each_split P xs i w u all pw pu j x e = elim (at_snoc (set xs i w) u x j e) as (λ _. P j x) [
    | inl a ↦ each_set P xs i w (λ k y n d. all k y d) pw j x a
    | inr a ↦ subst (P j) a (pu j)
  ]

  pub set_there : (xs : List A) (i : ℕ) (v w : A) → get_elem? xs i ≡ some v → get_elem? (set xs i w) i ≡ some w
  set_there [] i v w e = cc
  set_there (x ∷ xs) zero v w e = refl
  set_there (x ∷ xs) (suc i) v w e = set_there xs i v w e

  -- what some view has, it has still after it, or another, has changed
  pub some_set : (P : A → Type 0) (xs : List A) (i : ℕ) (v w : A) → get_elem? xs i ≡ some v → (P v → P w) → SomeSeat P xs → SomeSeat P (set xs i w)
  some_set P xs i v w at still one = dite (ℕ_discrete one.0 i)
      (λ same. (i, (w, set_there xs i v w at, still (subst P (some_one one.1.0 v (sym one.1.1 ∙ ap (get_elem? xs) same ∙ at)) one.1.2))))
      (λ apart. (one.0, (one.1.0, set_else xs i one.0 w apart ∙ one.1.1, one.1.2)))
