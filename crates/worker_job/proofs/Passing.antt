-- Which of a list pass a test: none, or the first that is found.
use Rattle.std.proofs.Common.{◌≡◌, ◌⊎◌, inl, inr, Bool, true, false, true≢false, cond, List, [], ◌∷◌, refl, sym, ap, ◌∙◌, Some, None}
use Rattle.std.specs.List.{find}
use Rattle.growth.specs.Growth.{Among}

module _ {A : Type 0} (t : A → Bool) where
  -- ---- none does

  head_off : (x : A) (xs : List A) (b : Bool) → cond b (Some x) (find t xs) ≡ None → b ≡ false
  head_off x xs true lacks = absurd (cc)
  head_off x xs false lacks = refl

  rest_lacks : (x : A) (xs : List A) (b : Bool) → cond b (Some x) (find t xs) ≡ None → find t xs ≡ None
  rest_lacks x xs true lacks = absurd (cc)
  rest_lacks x xs false lacks = lacks

  pub off_at : (xs : List A) (x : A) → Among x xs → find t xs ≡ None → t x ≡ false
  off_at [] x here lacks = absurd here
  off_at (y ∷ ys) x (inl is) lacks = ap t (sym is) ∙ head_off y ys (t y) lacks
  off_at (y ∷ ys) x (inr there) lacks = off_at ys x there (rest_lacks y ys (t y) lacks)

  pub lacks_by : (xs : List A) → ((x : A) → Among x xs → t x ≡ false) → find t xs ≡ None
  lacks_by [] off = refl
  lacks_by (x ∷ xs) off =
      ap (λ (b : Bool). cond b (Some x) (find t xs)) (off x (inl refl)) ∙ lacks_by xs (λ y there. off y (inr there))

  -- ---- one is found

  pub record Finds (xs : List A) : Type 0 where
    pub one : A
    pub among : Among one xs
    pub passes : t one ≡ true
    pub found : find t xs ≡ Some one

  finds_by : (x y : A) (ys : List A) (b : Bool) → t y ≡ b → t x ≡ true → (y ≡ x) ⊎ Among x ys → (Among x ys → Finds ys) → Finds (y ∷ ys)
  finds_by x y ys true is passes here rest =
      record { one = y; among = inl refl; passes = is; found = ap (λ (b : Bool). cond b (Some y) (find t ys)) is }
  finds_by x y ys false is passes (inl same) rest = absurd (true≢false (sym passes ∙ ap t (sym same) ∙ is))
  finds_by x y ys false is passes (inr there) rest =
      let r = rest there in
      record {
        one = r.one;
        among = inr r.among;
        passes = r.passes;
        found = ap (λ (b : Bool). cond b (Some y) (find t ys)) is ∙ r.found;
      }

  -- where one passes, one is found
  pub finds : (xs : List A) (x : A) → Among x xs → t x ≡ true → Finds xs
  finds [] x here passes = absurd here
  finds (y ∷ ys) x here passes = finds_by x y ys (t y) refl passes here (λ there. finds ys x there passes)

  found_by : (x y : A) (ys : List A) (b : Bool) → t y ≡ b → cond b (Some y) (find t ys) ≡ Some x → (find t ys ≡ Some x → Among x ys × (t x ≡ true)) → Among x (y ∷ ys) × (t x ≡ true)
  found_by x y ys true is found rest = let same : y ≡ x = cc in (inl same, ap t (sym same) ∙ is)
  found_by x y ys false is found rest = let r = rest found in (inr r.0, r.1)

  -- what is found is one of them and passes
  pub found_in : (xs : List A) (x : A) → find t xs ≡ Some x → Among x xs × (t x ≡ true)
  found_in [] x found = absurd (cc)
  found_in (y ∷ ys) x found = found_by x y ys (t y) refl found (found_in ys x)
