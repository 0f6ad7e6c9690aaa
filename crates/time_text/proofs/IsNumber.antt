-- Numbers of 1 to 8 digits, read from the left.
use Rattle.std.proofs.Common.{rules, ◌≡◌, ℕ, ◌+◌, ◌-◌, ◌*◌, ◌^◌, ◌<◌, ◌≤◌, true, false, ◌&&◌, refl, List, length, get_or, take, arith, ◌∙◌, ap, nat_lt}
use Rattle.std.specs.Prelude.{nat_le}
use Rattle.std.specs.List.{list_all}
use Rattle.std.specs.Char.{is_ascii_digit, digit_value}
use Rattle.std.specs.Str.Parse.{digits_value}
use Rattle.std.proofs.lemmas.Str.Parse.{IsNumeralModel, numerals_by_value, digits_value_short, digits_value-take-le, digit_at}
use Rattle.std.proofs.lemmas.Int.Digits.{digits_value_more}
use Rattle.std.proofs.lemmas.Bool.{and_parts, leb-true, le-ltb, lt-ltb}
use Rattle.time_text.specs.Durations.{is_number}

own : IsNumeralModel (λ ds. list_all is_ascii_digit ds ≡ true) (digits_value 10)
own = numerals_by_value _ (search rules)

pub all_digits : (ds : List ℕ) → is_number ds ≡ true → list_all is_ascii_digit ds ≡ true
all_digits ds form = (and_parts (nat_lt 0 (length ds) && nat_le (length ds) 8) (list_all is_ascii_digit ds) form).1

pub digits_value-is_number : (ds : List ℕ) → is_number ds ≡ true → digits_value 10 ds < 10 ^ 8
digits_value-is_number ds form =
    let parts = and_parts (nat_lt 0 (length ds) && nat_le (length ds) 8) (list_all is_ascii_digit ds) form in
    let short = and_parts (nat_lt 0 (length ds)) (nat_le (length ds) 8) parts.0 in
    digits_value_short own ds 8 parts.1 (leb-true (length ds) 8 short.1)

digit_value-digit : (c : ℕ) → 48 ≤ c → c ≤ 57 → digit_value c ≡ c - 48
digit_value-digit c low high =
    let first : nat_lt c 48 ≡ false = le-ltb c 48 low in
    let second : nat_lt c 58 ≡ true = lt-ltb c 58 (omega arith) in
    rw (first, second) refl

-- the next digit gives the number so far its next value, which stays short
pub digits_value_next : (ds : List ℕ) (i : ℕ) → is_number ds ≡ true → i < length ds →
    (digits_value 10 (take (i + 1) ds) ≡ digits_value 10 (take i ds) * 10 + (get_or ds i 0 - 48)) × (digits_value 10 (take (i + 1) ds) < 10 ^ 8)
digits_value_next ds i form at =
    let digit = digit_at ds i (own.to ds (all_digits ds form)) at in
    let value = digit_value-digit (get_or ds i 0) digit.0 digit.1 in
    (digits_value_more 10 ds i at ∙ ap (λ n. digits_value 10 (take i ds) * 10 + n) value, omega (arith, digits_value-take-le 10 ds (i + 1) (omega arith), digits_value-is_number ds form))
