-- Sets of places as bits.
use Rattle.std.proofs.Common.{◌≡◌, ◌≢◌, ◌⊎◌, ℕ, zero, suc, ◌*◌, ◌/◌, ◌%◌, ◌^◌, ◌<◌, ◌≤◌, ◌==◌, ◌||◌, max, Bool, true, false, List, length, get_or, set, replicate, refl, sym, ap, ◌∙◌, inl, inr, arith}
use Rattle.std.specs.Prelude.{bit_or}
use Rattle.std.specs.Int.{bit_at, w64}
use Rattle.std.proofs.lemmas.Bool.{cases_lt, cases_Bool, eqb-true, eq-eqb}
use Rattle.std.proofs.lemmas.List.{get_or-replicate, get_or_past, get_or-set_same, get_or-set_other, length-replicate}
use Rattle.std.proofs.lemmas.Nat.Bits.{bit_at-zero, bit_at_or, bit_at-lt, bit_at_set_same, bit_at_set_other}
use Rattle.task_order.specs.Inside.Rows.{has}
use Rattle.task_order.proofs.Among.{same_or}

-- ---- no place

zero_at : (words : List ℕ) (n k : ℕ) → words ≡ replicate n 0 → get_or words k 0 ≡ 0
zero_at words n k are =
    ap (λ ws. get_or ws k 0) are ∙ elim (cases_lt k n) [
      | inl below ↦ get_or-replicate n k 0 0 below
      | inr past ↦ get_or_past (replicate n 0) k 0 (let long : length (replicate {A = ℕ} n 0) ≡ n = length-replicate n 0 in omega (arith, long))
    ]

pub has_none : (words : List ℕ) (n p : ℕ) → words ≡ replicate n 0 → has words p ≡ false
has_none words n p are =
    ap (λ w. bit_at w (p % 64) == 1) (zero_at words n (p / 64) are) ∙ ap (λ b. b == 1) (bit_at-zero (p % 64))

-- ---- the places of two sets

max_is_one : (a b : ℕ) → a < 2 → b < 2 → (max a b == 1) ≡ ((a == 1) || (b == 1))
max_is_one zero zero low_a low_b = refl
max_is_one zero (suc zero) low_a low_b = refl
max_is_one zero (suc (suc b)) low_a low_b = absurd (omega arith)
max_is_one (suc zero) zero low_a low_b = refl
max_is_one (suc zero) (suc zero) low_a low_b = refl
max_is_one (suc zero) (suc (suc b)) low_a low_b = absurd (omega arith)
max_is_one (suc (suc a)) b low_a low_b = absurd (omega arith)

pub has_either : (xs ys zs : List ℕ) (p : ℕ) → get_or zs (p / 64) 0 ≡ bit_or (get_or xs (p / 64) 0) (get_or ys (p / 64) 0) → has zs p ≡ (has xs p || has ys p)
has_either xs ys zs p is =
    let a = get_or xs (p / 64) 0 in
    let b = get_or ys (p / 64) 0 in
    ap (λ w. bit_at w (p % 64) == 1) is
    ∙ ap (λ n. n == 1) (bit_at_or a b (p % 64))
    ∙ max_is_one (bit_at a (p % 64)) (bit_at b (p % 64)) (bit_at-lt a (p % 64)) (bit_at-lt b (p % 64))

-- ---- one place more

or_true : (a b : Bool) → a ≡ true → (a || b) ≡ true
or_true true b e = refl
or_true false b e = absurd cc

or_false : (a b : Bool) → a ≡ false → (a || b) ≡ b
or_false true b e = absurd cc
or_false false b e = refl

not_equal : (a b : ℕ) → a ≢ b → (a == b) ≡ false
not_equal a b differ =
    elim (cases_Bool (a == b)) [
      | inl same ↦ absurd (differ (eqb-true a b same))
      | inr differs ↦ differs
    ]

pub has_added : (words : List ℕ) (place p : ℕ) → place / 64 < length words → has (set words (place / 64) (bit_or (get_or words (place / 64) 0) (1 * 2 ^ (place % 64) % 2 ^ 64))) p ≡ ((p == place) || has words p)
has_added words place p below = by_word (same_or (p / 64) (place / 64))
  where
    word : ℕ
    word = bit_or (get_or words (place / 64) 0) (1 * 2 ^ (place % 64) % 2 ^ 64)

    in_word : place % 64 < 64
    in_word = omega arith

    at_word : p / 64 ≡ place / 64 → get_or (set words (place / 64) word) (p / 64) 0 ≡ word
    at_word same = ap (λ k. get_or (set words (place / 64) word) k 0) same ∙ get_or-set_same words (place / 64) word 0 below

    old_word : p / 64 ≡ place / 64 → get_or words (p / 64) 0 ≡ get_or words (place / 64) 0
    old_word same = ap (λ k. get_or words k 0) same

    by_bit : p / 64 ≡ place / 64 → (p % 64 ≡ place % 64) ⊎ (p % 64 ≢ place % 64) → has (set words (place / 64) word) p ≡ ((p == place) || has words p)
    by_bit same (inl bit) =
        let is : p ≡ place = omega arith in
        ap (λ w. bit_at w (p % 64) == 1) (at_word same)
        ∙ ap (λ i. bit_at word i == 1) bit
        ∙ ap (λ b. b == 1) (bit_at_set_same w64 (get_or words (place / 64) 0) (place % 64) in_word)
        ∙ sym (or_true (p == place) (has words p) (eq-eqb p place is))
    by_bit same (inr other) =
        ap (λ w. bit_at w (p % 64) == 1) (at_word same)
        ∙ ap (λ b. b == 1) (bit_at_set_other w64 (get_or words (place / 64) 0) (place % 64) in_word (p % 64) other)
        ∙ ap (λ w. bit_at w (p % 64) == 1) (sym (old_word same))
        ∙ sym (or_false (p == place) (has words p) (not_equal p place (λ is. other (ap (λ n. n % 64) is))))

    by_word : (p / 64 ≡ place / 64) ⊎ (p / 64 ≢ place / 64) → has (set words (place / 64) word) p ≡ ((p == place) || has words p)
    by_word (inl same) = by_bit same (same_or (p % 64) (place % 64))
    by_word (inr other) =
        ap (λ w. bit_at w (p % 64) == 1) (get_or-set_other words (place / 64) (p / 64) word 0 other)
        ∙ sym (or_false (p == place) (has words p) (not_equal p place (λ is. other (ap (λ n. n / 64) is))))

-- ---- words one by one

pub all_words : (xs ys zs : List ℕ) (i k : ℕ) → length ys ≡ length xs → length zs ≡ length xs → length zs ≤ i → ((j : ℕ) → j < i → get_or zs j 0 ≡ bit_or (get_or xs j 0) (get_or ys j 0)) → get_or zs k 0 ≡ bit_or (get_or xs k 0) (get_or ys k 0)
all_words xs ys zs i k ys_long zs_long past so_far =
    elim (cases_lt k i) [
      | inl before ↦ so_far k before
      | inr behind ↦
          let none_x : get_or xs k 0 ≡ 0 = get_or_past xs k 0 (omega arith) in
          let none_y : get_or ys k 0 ≡ 0 = get_or_past ys k 0 (omega arith) in
          let none_z : get_or zs k 0 ≡ 0 = get_or_past zs k 0 (omega arith) in
          none_z ∙ ap (λ a. bit_or a 0) (sym none_x) ∙ ap (λ b. bit_or (get_or xs k 0) b) (sym none_y)
    ]
