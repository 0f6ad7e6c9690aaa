-- How a wait grows from one attempt to the next.
use Rattle.std.proofs.Common.{◌≡◌, ℕ, zero, suc, ◌+◌, ◌-◌, ◌*◌, ◌^◌, ◌<◌, ◌≤◌, ◌⊎◌, min, refl, arith, sym, ◌∙◌, ap, inl, inr}
use Rattle.std.proofs.Math.Nat.{mul-suc, mul_assoc, pow-suc, pow-zero, mul-zero, mul-one, zero-mul}
use Rattle.std.proofs.lemmas.Nat.{pow-add}
use Rattle.std.proofs.lemmas.Bool.{cases_lt}
use Rattle.base_types.specs.Limits.{most_seconds}
use Rattle.time_text.specs.Durations.{delay}

grows : (x f : ℕ) → 1 ≤ f → x ≤ x * f
grows x zero h = absurd (omega arith)
grows x (suc g) h = let e : x * suc g ≡ x * g + x = mul-suc x g in omega arith

cut_times : (most x f : ℕ) → 1 ≤ f → min most (min most x * f) ≡ min most (x * f)
cut_times most x f h =
    elim (cases_lt most x) [
      | inl above ↦ let e : min most x ≡ most = omega arith in rw e (omega (arith, grows most f h, grows x f h))
      | inr within ↦ let e : min most x ≡ x = omega arith in rw e refl
    ]

pow_at_least : (f k : ℕ) → 1 ≤ f → 1 ≤ f ^ k
pow_at_least f zero h = rw pow-zero (omega arith)
pow_at_least f (suc k) h = let e : f ^ suc k ≡ f ^ k * f = pow-suc f k in omega (arith, grows (f ^ k) f h, pow_at_least f k h)

-- one more attempt waits the cut product
pub delay_more : (d f i : ℕ) → 2 ≤ f → 1 ≤ i → min most_seconds (delay d f i * f) ≡ delay d f (i + 1)
delay_more d f i two first =
    let e : i + 1 - 1 ≡ suc (i - 1) = omega arith in
    cut_times most_seconds (d * f ^ (i - 1)) f (omega arith)
    ∙ ap (λ x. min most_seconds x) (mul_assoc d (f ^ (i - 1)) f ∙ ap (λ x. d * x) (sym (pow-suc f (i - 1)) ∙ ap (λ n. f ^ n) (sym e)))

-- a wait of 0, or one at the cut, stays as it is
pub delay_stays : (d f i k : ℕ) → 2 ≤ f → 1 ≤ i → i ≤ k → (delay d f i ≡ 0) ⊎ (delay d f i ≡ most_seconds) → delay d f i ≡ delay d f k
delay_stays d f i k two first le over =
    let e : k - 1 ≡ (i - 1) + (k - i) = omega arith in
    let p : d * f ^ (k - 1) ≡ d * f ^ (i - 1) * f ^ (k - i) = ap (λ n. d * f ^ n) e ∙ ap (λ x. d * x) (pow-add f (i - 1) (k - i)) ∙ sym (mul_assoc d (f ^ (i - 1)) (f ^ (k - i))) in
    let g : d * f ^ (i - 1) ≤ d * f ^ (i - 1) * f ^ (k - i) = grows (d * f ^ (i - 1)) (f ^ (k - i)) (pow_at_least f (k - i) (omega arith)) in
    elim over [
      | inl none ↦ let z : d * f ^ (i - 1) ≡ 0 = omega arith in
          let y : d * f ^ (i - 1) * f ^ (k - i) ≡ 0 = ap (λ x. x * f ^ (k - i)) z ∙ zero-mul (f ^ (k - i)) in
          omega arith
      | inr cut ↦ omega arith
    ]

-- a factor of 0 leaves nothing to wait from the second attempt on
pub delay_by_zero : (d k : ℕ) → 1 < k → delay d 0 k ≡ 0
delay_by_zero d k later =
    let e : k - 1 ≡ suc (k - 2) = omega arith in
    let p : d * 0 ^ (k - 1) ≡ 0 = ap (λ n. d * 0 ^ n) e ∙ ap (λ x. d * x) (pow-suc 0 (k - 2) ∙ mul-zero (0 ^ (k - 2))) ∙ mul-zero d in
    omega arith

one_pow : (k : ℕ) → 1 ^ k ≡ 1
one_pow zero = pow-zero 1
one_pow (suc k) = pow-suc 1 k ∙ ap (λ x. x * 1) (one_pow k)

-- the first attempt after a failure waits the duration, as does each at a factor of 1
pub delay_unchanged : (d f k : ℕ) → (k ≡ 1) ⊎ (f ≡ 1) → delay d f k ≡ min most_seconds d
delay_unchanged d f k at =
    let p : d * f ^ (k - 1) ≡ d = elim at [
      | inl first ↦ let z : k - 1 ≡ zero = omega arith in ap (λ n. d * f ^ n) z ∙ ap (λ x. d * x) (pow-zero f) ∙ mul-one d
      | inr one ↦ ap (λ g. d * g ^ (k - 1)) one ∙ ap (λ x. d * x) (one_pow (k - 1)) ∙ mul-one d
    ] in
    ap (λ x. min most_seconds x) p
