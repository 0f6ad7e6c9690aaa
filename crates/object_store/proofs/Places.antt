-- Items by their places in lists that grow.
use Rattle.std.proofs.Common.{◌≡◌, ℕ, zero, suc, ◌+◌, ◌-◌, List, [], ◌∷◌, ◌++◌, length, refl, ◌∙◌, ap, arith, add-one, Some, unwrap_or, ◌⊎◌, inl, inr}
use Rattle.std.specs.Prelude.{slice_get}

module _ {A : Type 0} where
  pub get_at : (xs : List A) (i j : ℕ) (x : A) → i ≡ j → slice_get xs j ≡ Some x → slice_get xs i ≡ Some x
  get_at xs i j x e at = ap (slice_get xs) e ∙ at

  pub get_left : (xs ys : List A) (i : ℕ) (x : A) → slice_get xs i ≡ Some x → slice_get (xs ++ ys) i ≡ Some x
  get_left [] ys i x at = absurd (cc)
  get_left (y ∷ xs) ys zero x at = at
  get_left (y ∷ xs) ys (suc i) x at = get_left xs ys i x at

  pub get_seam : (xs : List A) (x : A) → slice_get (xs ++ x ∷ []) (length xs) ≡ Some x
  get_seam [] x = refl
  get_seam (y ∷ xs) x = get_seam xs x

  pub get_later : (x : A) (xs : List A) (i : ℕ) (y : A) → slice_get xs i ≡ Some y → slice_get (x ∷ xs) (i + 1) ≡ Some y
  get_later x xs i y at = ap (slice_get (x ∷ xs)) (add-one i) ∙ at

  pub snoc_cases : (xs : List A) (y : A) (i : ℕ) (x : A) → slice_get (xs ++ y ∷ []) i ≡ Some x → (slice_get xs i ≡ Some x) ⊎ ((i ≡ length xs) × (x ≡ y))
  snoc_cases [] y zero x e = inr (refl, (let h : Some y ≡ Some x = e in cc))
  snoc_cases [] y (suc i) x e = absurd (cc)
  snoc_cases (z ∷ xs) y zero x e = inl e
  snoc_cases (z ∷ xs) y (suc i) x e = by (snoc_cases xs y i x e)
    where
      by : (slice_get xs i ≡ Some x) ⊎ ((i ≡ length xs) × (x ≡ y)) → (slice_get (z ∷ xs) (suc i) ≡ Some x) ⊎ ((suc i ≡ length (z ∷ xs)) × (x ≡ y))
      by (inl a) = inl a
      by (inr a) = inr (ap suc a.0, a.1)

  -- the last of a list, with one before it for where it is empty
  pub get_last : (x : A) (xs : List A) → slice_get (x ∷ xs) (length xs) ≡ Some (unwrap_or (slice_get xs (length xs - 1)) x)
  get_last x [] = refl
  get_last x (y ∷ xs) = there y xs ∙ ap (λ i. Some (unwrap_or (slice_get (y ∷ xs) i) x)) (omega arith)
    where
      there : (y : A) (xs : List A) → slice_get (y ∷ xs) (length xs) ≡ Some (unwrap_or (slice_get (y ∷ xs) (length xs)) x)
      there y [] = refl
      there y (z ∷ xs) = there z xs
