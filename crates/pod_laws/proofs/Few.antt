-- Lists in which nothing stands twice: what stands in one of them, told by how long they are.
use Rattle.std.proofs.Common.{◌≡◌, ◌+◌, ◌≤◌, List, [], ◌∷◌, length, refl, sym, ◌∙◌, subst, ◌⊎◌, inl, inr, arith}
use Rattle.tree_types.specs.declared.want.Want.{Want}
use Rattle.growth.specs.Growth.{Among}

-- no two of these are the same
abbrev pub Distinct : List Want → Type 0
Distinct [] = Unit {0}
Distinct (x ∷ xs) = ((y : Want) → Among y xs → x ≡ y → ⊥) × Distinct xs

-- a list without one that stands in it
record Without (x : Want) (xs : List Want) : Type 0 where
  others : List Want
  count : length xs ≡ length others + 1
  split : (y : Want) → Among y xs → (x ≡ y) ⊎ Among y others

without : (x : Want) (xs : List Want) → Among x xs → Without x xs
without x [] h = absurd h
without x (z ∷ xs) (inl e) = record { others = xs; count = omega arith; split = λ y h. one y h }
  where
    one : (y : Want) → (z ≡ y) ⊎ Among y xs → (x ≡ y) ⊎ Among y xs
    one y (inl q) = inl (sym e ∙ q)
    one y (inr a) = inr a
without x (z ∷ xs) (inr h) = let w = without x xs h in record { others = z ∷ w.others; count = (let c = w.count in omega arith); split = λ y a. one w y a }
  where
    further : (y : Want) (os : List Want) → (x ≡ y) ⊎ Among y os → (x ≡ y) ⊎ Among y (z ∷ os)
    further y os (inl e) = inl e
    further y os (inr a) = inr (inr a)

    one : (w : Without x xs) (y : Want) → (z ≡ y) ⊎ Among y xs → (x ≡ y) ⊎ Among y (z ∷ w.others)
    one w y (inl q) = inr (inl q)
    one w y (inr a) = further y w.others (w.split y a)

-- the rest of a list stands where the list does, without its first
module _ (x : Want) (xs ys : List Want) (apart : (y : Want) → Among y xs → x ≡ y → ⊥) (within : (y : Want) → Among y (x ∷ xs) → Among y ys) where
  first : Without x ys
  first = without x ys (within x (inl refl))

  other : (y : Want) → Among y xs → (x ≡ y) ⊎ Among y first.others → Among y first.others
  other y h (inl e) = absurd (apart y h e)
  other y h (inr a) = a

  rest : (y : Want) → Among y xs → Among y first.others
  rest y h = other y h (first.split y (within y (inr h)))

-- where they are no more than those that stand among them, they are these
pub none_new :
    (xs ys : List Want) → Distinct xs → ((y : Want) → Among y xs → Among y ys) → length ys ≤ length xs →
    (y : Want) → Among y ys → Among y xs
none_new [] [] apart within few y h = h
none_new [] (z ∷ ys) apart within few y h = absurd (omega (arith, few))
none_new (x ∷ xs) ys apart within few y h =
    let w = first x xs ys apart.0 within in
    let c : length ys ≡ length w.others + 1 = w.count in
    by w (none_new xs w.others apart.1 (rest x xs ys apart.0 within) (omega (arith, few, c))) (w.split y h)
  where
    by : (w : Without x ys) → ((z : Want) → Among z w.others → Among z xs) → (x ≡ y) ⊎ Among y w.others → Among y (x ∷ xs)
    by w back (inl e) = inl e
    by w back (inr a) = inr (back y a)

-- where they are one more, one at the most is not among these
pub one_new :
    (xs ys : List Want) → Distinct xs → ((y : Want) → Among y xs → Among y ys) → length ys ≤ length xs + 1 →
    (u v : Want) → Among u ys → Among v ys → (Among u xs → ⊥) → (Among v xs → ⊥) → u ≡ v
one_new [] [] apart within few u v hu hv nu nv = absurd hu
one_new [] (z ∷ []) apart within few u v (inl e) (inl f) nu nv = sym e ∙ f
one_new [] (z ∷ []) apart within few u v (inl e) (inr h) nu nv = absurd h
one_new [] (z ∷ []) apart within few u v (inr h) hv nu nv = absurd h
one_new [] (z ∷ y ∷ ys) apart within few u v hu hv nu nv = absurd (omega (arith, few))
one_new (x ∷ xs) ys apart within few u v hu hv nu nv =
    let w = first x xs ys apart.0 within in
    let c : length ys ≡ length w.others + 1 = w.count in
    one_new xs w.others apart.1 (rest x xs ys apart.0 within) (omega (arith, few, c)) u v
    (left u w nu (w.split u hu)) (left v w nv (w.split v hv)) (λ a. nu (inr a)) (λ a. nv (inr a))
  where
    left : (y : Want) (w : Without x ys) → (Among y (x ∷ xs) → ⊥) → (x ≡ y) ⊎ Among y w.others → Among y w.others
    left y w n (inl e) = absurd (n (inl e))
    left y w n (inr a) = a

-- ---- where some may be gone, and all that are gone are the same

module _ (Gone : Want → Type 0) where
  -- one that is gone, or none
  sought : (xs ys : List Want) → ((y : Want) → Among y xs → Gone y ⊎ Among y ys) →
      ((x : Want) × Among x xs × Gone x) ⊎ ((y : Want) → Among y xs → Among y ys)
  sought [] ys left = inr (λ y h. absurd h)
  sought (x ∷ xs) ys left = by (left x (inl refl)) (sought xs ys (λ y h. left y (inr h)))
    where
      all : Among x ys → ((y : Want) → Among y xs → Among y ys) → (y : Want) → Among y (x ∷ xs) → Among y ys
      all a behind y (inl e) = subst (λ (z : Want). Among z ys) e a
      all a behind y (inr h) = behind y h

      by : Gone x ⊎ Among x ys → ((z : Want) × Among z xs × Gone z) ⊎ ((y : Want) → Among y xs → Among y ys) →
          ((z : Want) × Among z (x ∷ xs) × Gone z) ⊎ ((y : Want) → Among y (x ∷ xs) → Among y ys)
      by (inl g) behind = inl (x, inl refl, g)
      by (inr a) (inl z) = inl (z.0, inr z.1, z.2)
      by (inr a) (inr behind) = inr (all a behind)

  pub none_new_but :
      (xs ys : List Want) → Distinct xs → ((y : Want) → Among y xs → Gone y ⊎ Among y ys) →
      ((x y : Want) → Among x xs → Among y xs → Gone x → Gone y → x ≡ y) → 1 + length ys ≤ length xs →
      (y : Want) → Among y ys → Among y xs
  none_new_but xs ys apart left one few y h = by (sought xs ys left)
    where
      within : (x : Want) → Among x xs → Gone x → (z : Want) → Among z xs → Gone z ⊎ Among z ys → Among z (x ∷ ys)
      within x a g z b (inl gone) = inl (one x z a b g gone)
      within x a g z b (inr stays) = inr stays

      by : ((x : Want) × Among x xs × Gone x) ⊎ ((z : Want) → Among z xs → Among z ys) → Among y xs
      by (inl x) = none_new xs (x.0 ∷ ys) apart (λ z b. within x.0 x.1 x.2 z b (left z b)) (omega (arith, few)) y (inr h)
      by (inr all) = none_new xs ys apart all (omega (arith, few)) y h
