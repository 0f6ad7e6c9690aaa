-- The names of what is drawn: they are of their grammar, and differ.
use Rattle.std.proofs.Common.{◌≡◌, ℕ, ◌+◌, ◌*◌, ◌/◌, ◌%◌, ◌<◌, Bool, true, false, List, Some, refl, arith, bytes_eq}
use Rattle.std.proofs.lemmas.Bool.Decides.{nat_tests}
use Rattle.std.proofs.lemmas.Slice.Eq.{bytes_eq-Decides}
use Rattle.template_reader.specs.Names.{is_resource_byte, resource_name}
use Rattle.generator.specs.Bundles.{digit, name}

digit_fits : (n : ℕ) → is_resource_byte (digit n) ≡ true
digit_fits n = grind (arith, nat_tests)

pub name_fits : (n : ℕ) → resource_name (name n) ≡ Some (name n)
unfolding name
name_fits n = rw (digit_fits (n / 10000), digit_fits (n / 1000), digit_fits (n / 100), digit_fits (n / 10), digit_fits n) refl

-- ---- names differ

value : (n : ℕ) → n < 100000 → n ≡ 10000 * (n / 10000 % 10) + 1000 * (n / 1000 % 10) + 100 * (n / 100 % 10) + 10 * (n / 10 % 10) + n % 10
value n h =
    let second : n / 10 / 10 ≡ n / 100 = omega arith in
    let third : n / 100 / 10 ≡ n / 1000 = omega arith in
    let fourth : n / 1000 / 10 ≡ n / 10000 = omega arith in
    let small : n / 10000 < 10 = omega arith in
    omega arith

same_digits : (i j : ℕ) → digit i ≡ digit j → i % 10 ≡ j % 10
same_digits i j e = omega arith

same_number : (i j : ℕ) → i < 100000 → j < 100000 → name i ≡ name j → i ≡ j
unfolding name
same_number i j h k e =
    let first : digit (i / 10000) ≡ digit (j / 10000) = cc in
    let second : digit (i / 1000) ≡ digit (j / 1000) = cc in
    let third : digit (i / 100) ≡ digit (j / 100) = cc in
    let fourth : digit (i / 10) ≡ digit (j / 10) = cc in
    let fifth : digit i ≡ digit j = cc in
    let a = same_digits (i / 10000) (j / 10000) first in
    let b = same_digits (i / 1000) (j / 1000) second in
    let c = same_digits (i / 100) (j / 100) third in
    let d = same_digits (i / 10) (j / 10) fourth in
    let f = same_digits i j fifth in
    omega (arith, value i h, value j k, a, b, c, d, f)

differ : (xs ys : List ℕ) (b : Bool) → bytes_eq xs ys ≡ b → (xs ≡ ys → ⊥) → b ≡ false
differ xs ys true e other = absurd (other ((bytes_eq-Decides xs ys).0 e))
differ xs ys false e other = refl

-- a later position has another name
pub names_apart : (i j : ℕ) → i < j → j < 100000 → bytes_eq (name j) (name i) ≡ false
names_apart i j h k = differ (name j) (name i) _ refl (λ e. absurd (omega (arith, same_number j i k (omega arith) e)))
