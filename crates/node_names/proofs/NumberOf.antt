-- The digits of numbers.
use Rattle.std.proofs.Common.{◌≡◌, ◌≢◌, ℕ, zero, suc, ◌<◌, ◌^◌, List, [], ◌∷◌, length, get_or, Option, MatchOption, Result, Ok, Err, sym, ap, subst, ◌∙◌, arith}
use Rattle.std.specs.Prelude.{decimal}
use Rattle.std.specs.Result.{result_ok}
use Rattle.std.specs.Str.Parse.{AllDigits, digits_value, ParsesUnsigned}
use Rattle.std.proofs.lemmas.Str.Parse.{parse_plain, digit_at}
use Rattle.std.proofs.lemmas.Fmt.{decimal_nonempty, decimal_digit, first_decimal, digits_decimal, digits_value-decimal, decimal-digits_value}
use Rattle.node_names.proofs.Bytes.{numerals}

-- a number has a digit
pub empty_is_none : (digits : List ℕ) → length digits ≡ 0 → (n : ℕ) → n < 2 ^ 32 → digits ≢ decimal n
empty_is_none digits none n small e = omega (arith, decimal_nonempty n (omega arith), ap length e)

-- and no sign
pub plus_is_none : (digits : List ℕ) → get_or digits 0 0 ≡ 43 → (n : ℕ) → n < 2 ^ 32 → digits ≢ decimal n
plus_is_none digits plus n small e =
    let first = digit_at (decimal n) 0 (digits_decimal numerals n (omega arith)) (decimal_nonempty n (omega arith)) in
    omega (arith, first.0, ap (λ t. get_or t 0 0) e)

-- a leading zero is the only digit
pub zeros_are_none : (digits : List ℕ) → get_or digits 0 0 ≡ 48 → length digits ≢ 1 → (n : ℕ) → n < 2 ^ 32 → digits ≢ decimal n
zeros_are_none digits leading long zero small e = long (ap length (e ∙ decimal_digit 0 (omega arith)))
zeros_are_none digits leading long (suc n) small e = omega (arith, first_decimal (suc n) (omega arith) (omega arith), ap (λ t. get_or t 0 0) e)

pub one_zero : (digits : List ℕ) → get_or digits 0 0 ≡ 48 → length digits ≡ 1 → digits ≡ decimal 0
one_zero [] leading one = absurd (omega arith)
one_zero (b ∷ []) leading one = ap (λ c. c ∷ []) leading ∙ sym (decimal_digit 0 (omega arith))
one_zero (b ∷ c ∷ bs) leading one = absurd (omega arith)

-- what `parse` answers for digits with neither
pub number_found : {E : Type 0} (digits : List ℕ) (r : Result ℕ E) (found : Option ℕ) → found ≡ result_ok r → ParsesUnsigned 32 10 digits r → get_or digits 0 0 ≢ 43 → get_or digits 0 0 ≢ 48
    → MatchOption found ((n : ℕ) → n < 2 ^ 32 → digits ≢ decimal n) (λ n. digits ≡ decimal n)
number_found {E} digits (Ok n) found is parsed plus leading =
    let h = parse_plain numerals {E = E} 32 digits (Ok n) parsed plus in
    let written = decimal-digits_value numerals digits h.0.0 h.0.1 (λ zero. absurd (leading zero)) (omega (arith, h.0.2)) in
    subst (λ o. MatchOption o ((n : ℕ) → n < 2 ^ 32 → digits ≢ decimal n) (λ n. digits ≡ decimal n)) (sym is) (sym written ∙ ap decimal (sym h.1))
number_found {E} digits (Err e) found is parsed plus leading =
    let h = parse_plain numerals {E = E} 32 digits (Err e) parsed plus in
    subst (λ o. MatchOption o ((n : ℕ) → n < 2 ^ 32 → digits ≢ decimal n) (λ n. digits ≡ decimal n)) (sym is)
    (λ n small same. absurd (h (
      subst (AllDigits 10) (sym same) (digits_decimal numerals n (omega arith)),
      omega (arith, decimal_nonempty n (omega arith), ap length same),
      omega (arith, ap (digits_value 10) same, digits_value-decimal numerals n (omega arith)),
    )))
