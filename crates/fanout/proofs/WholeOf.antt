-- Numbers of a sequence, as `parse` reads them.
use Rattle.std.proofs.Common.{rules, ◌≡◌, ◌≢◌, ℕ, true, false, ◌&&◌, List, [], ◌∷◌, length, arith, refl, sym, ap, nat_lt, nat_eq, codes, Result, Ok, inl, inr}
use Rattle.std.specs.Prelude.{nat_le}
use Rattle.std.specs.List.{list_all, starts_with}
use Rattle.std.specs.Char.{is_ascii_digit}
use Rattle.std.specs.Str.Parse.{digits_value, ParsesUnsigned}
use Rattle.std.proofs.lemmas.Str.Parse.{IsNumeralModel, numerals_by_value, digits_value_short, parse_gives}
use Rattle.std.proofs.lemmas.Bool.{and_parts, leb-true, ltb-true, eqb-true, cases_Bool}
use Rattle.fanout.specs.Sequences.{are_digits}

own : IsNumeralModel (λ ds. list_all is_ascii_digit ds ≡ true) (digits_value 10)
own = numerals_by_value _ (search rules)

-- `parse` gives the number of 1 to 13 digits
pub parse-are_digits : {E : Type 0} (t : List ℕ) (r : Result ℕ E) → ParsesUnsigned 64 10 t r → are_digits t ≡ true → r ≡ Ok (digits_value 10 t)
parse-are_digits t r parses form =
    let parts = and_parts (nat_lt 0 (length t) && nat_le (length t) 13) (list_all is_ascii_digit t) form in
    let lengths = and_parts (nat_lt 0 (length t)) (nat_le (length t) 13) parts.0 in
    let short = digits_value_short own t 13 parts.1 (leb-true (length t) 13 lengths.1) in
    parse_gives own 64 t r parses parts.1 (ltb-true 0 (length t) lengths.0) (omega arith)

pub no_minus : (t : List ℕ) → ((rest : List ℕ) → t ≢ 45 ∷ rest) → starts_with nat_eq t (codes "-") ≡ false
no_minus [] other = refl
no_minus (b ∷ bs) other =
    elim (cases_Bool (nat_eq 45 b)) [
      | inl same ↦ absurd (other bs (ap (λ x. x ∷ bs) (sym (eqb-true 45 b same))))
      | inr differs ↦ ap (λ x. x && true) differs
    ]
