-- Places of entries: how they rise, and where they lie.
use Rattle.std.proofs.Common.{◌≡◌, ◌≢◌, ℕ, ◌+◌, ◌<◌, ◌≤◌, Bool, true, false, cond, List, [], ◌∷◌, ◌++◌, refl, sym, ap, arith, subst, inl, inr, suc, zero}
use Rattle.std.specs.Prelude.{◌⊎◌, ◌==◌, nat_lt}
use Rattle.std.proofs.lemmas.Bool.Decides.{nat_tests}
use Rattle.store_turn.specs.Places.{times, put, merged, Rising, AllBelow}

pub times_snoc : (x : ℕ) (xs : List ℕ) (n : ℕ) → times x (xs ++ n ∷ []) ≡ times x xs + cond (n == x) 1 0
times_snoc x [] n = omega arith
times_snoc x (y ∷ ys) n = let ih = times_snoc x ys n in omega arith

times_cond : (x : ℕ) (b : Bool) (xs ys : List ℕ) (n : ℕ) → times x xs ≡ n → times x ys ≡ n → times x (cond b xs ys) ≡ n
times_cond x true xs ys n p q = p
times_cond x false xs ys n p q = q

times_put : (x n : ℕ) (ys : List ℕ) → times x (put n ys) ≡ cond (n == x) 1 0 + times x ys
times_put x n [] = refl
times_put x n (y ∷ ys) = let ih = times_put x n ys in times_cond x (nat_lt n y) (n ∷ y ∷ ys) (y ∷ put n ys) (cond (n == x) 1 0 + (cond (y == x) 1 0 + times x ys)) refl (omega arith)

pub times_merged : (x : ℕ) (xs ys : List ℕ) → times x (merged xs ys) ≡ times x xs + times x ys
times_merged x [] ys = omega arith
times_merged x (n ∷ xs) ys = let ih = times_merged x xs ys in let a = times_put x n (merged xs ys) in omega arith

found : (n x : ℕ) → 1 ≤ cond (n == x) 1 0 → n ≡ x
found n x h = grind (arith, nat_tests)

here : (x : ℕ) (xs : List ℕ) → 1 ≤ times x (x ∷ xs)
here x xs = let e : ◌≡◌ {A = ℕ} (cond (x == x) 1 0) 1 = grind (arith, nat_tests) in omega arith

further : (x y : ℕ) (xs : List ℕ) → 1 ≤ times x xs → 1 ≤ times x (y ∷ xs)
further x y xs h = omega arith

-- which of two it is
in_sum : (n x k : ℕ) → 1 ≤ cond (n == x) 1 0 + k → (n ≡ x) ⊎ (1 ≤ k)
in_sum n x zero h = inl (found n x (omega arith))
in_sum n x (suc k) h = inr (omega arith)

pub rising_snoc : (xs : List ℕ) (n : ℕ) → Rising xs → AllBelow n xs → Rising (xs ++ n ∷ [])
rising_snoc [] n r b = ((λ y h. absurd (omega arith)), tt)
rising_snoc (x ∷ xs) n r b = (
  (λ y h. elim (in_sum n y (times y xs) (let e = times_snoc y xs n in omega arith)) as (λ _. x < y) [ inl e ↦ subst (λ k. x < k) e (b x (here x xs)) | inr e ↦ r.0 y e ]),
  rising_snoc xs n r.1 (λ y h. b y (further y x xs h)),
)

pub below_snoc : (xs : List ℕ) (n m : ℕ) → AllBelow n xs → m ≡ n + 1 → AllBelow m (xs ++ n ∷ [])
below_snoc xs n m b e x h = elim (in_sum n x (times x xs) (let s = times_snoc x xs n in omega arith)) as (λ _. x < m) [ inl q ↦ omega arith | inr q ↦ (let a = b x q in omega arith) ]

pub below_merged : (xs ys : List ℕ) (n m k : ℕ) → AllBelow n xs → AllBelow m ys → n ≤ k → m ≤ k → AllBelow k (merged xs ys)
below_merged xs ys n m k a b p q x h = below_either x (times x xs) (times x ys) (let e = times_merged x xs ys in omega arith) n m k p q (a x) (b x)
  where
    below_either : (x i j : ℕ) → 1 ≤ i + j → (n m k : ℕ) → n ≤ k → m ≤ k → (1 ≤ i → x < n) → (1 ≤ j → x < m) → x < k
    below_either x zero j h n m k p q f g = (let a = g (omega arith) in omega arith)
    below_either x (suc i) j h n m k p q f g = (let a = f (omega arith) in omega arith)

lt_of : (n y : ℕ) → nat_lt n y ≡ true → n < y
lt_of n y e = grind (arith, nat_tests)

ge_of : (n y : ℕ) → nat_lt n y ≡ false → y ≤ n
ge_of n y e = grind (arith, nat_tests)

rising_put : (n : ℕ) (ys : List ℕ) → Rising ys → times n ys ≡ 0 → Rising (put n ys)
rising_put n [] r z = ((λ y h. absurd (omega arith)), tt)
rising_put n (y ∷ ys) r z = by_test (rising_put n ys r.1 (omega arith)) (nat_lt n y) refl
  where
    by_test : Rising (put n ys) → (b : Bool) → nat_lt n y ≡ b → Rising (cond b (n ∷ y ∷ ys) (y ∷ put n ys))
    by_test later true e = ((λ x h. elim (in_sum y x (times x ys) h) as (λ _. n < x) [ inl q ↦ (let l = lt_of n y e in omega arith) | inr q ↦ (let l = lt_of n y e in let m = r.0 x q in omega arith) ]), r)
    by_test later false e = (
      (λ x h. elim (in_sum n x (times x ys) (let p = times_put x n ys in omega arith)) as (λ _. y < x) [ inl q ↦ (let l = ge_of n y e in let f : y ≢ n = λ same. (let w = here y ys in let s : times n (y ∷ ys) ≡ times y (y ∷ ys) = ap (λ k. times k (y ∷ ys)) (sym same) in omega arith) in omega arith) | inr q ↦ r.0 x q ]),
      later,
    )

pub rising_merged : (xs ys : List ℕ) → Rising xs → Rising ys → ((x : ℕ) → times x xs + times x ys ≤ 1) → Rising (merged xs ys)
rising_merged [] ys r s one = s
rising_merged (n ∷ xs) ys r s one = rising_put n (merged xs ys) (rising_merged xs ys r.1 s (λ x. (let o = one x in omega arith)))
    (let e = times_merged n xs ys in let o = one n in let h = same_sum n xs in omega arith)
  where
    same_sum : (n : ℕ) (xs : List ℕ) → times n (n ∷ xs) ≡ 1 + times n xs
    same_sum n xs = let e : ◌≡◌ {A = ℕ} (cond (n == n) 1 0) 1 = grind (arith, nat_tests) in omega arith
