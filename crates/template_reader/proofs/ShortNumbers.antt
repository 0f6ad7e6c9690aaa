-- The numbers of a retry, as `parse` reads them.
use Rattle.std.proofs.Common.{rules, ◌≡◌, ℕ, true, ◌&&◌, List, length, arith, nat_lt, Result, Ok}
use Rattle.std.specs.Prelude.{nat_le}
use Rattle.std.specs.List.{list_all}
use Rattle.std.specs.Char.{is_ascii_digit}
use Rattle.std.specs.Str.Parse.{digits_value, ParsesUnsigned}
use Rattle.std.proofs.lemmas.Str.Parse.{IsNumeralModel, numerals_by_value, digits_value_short, parse_gives}
use Rattle.std.proofs.lemmas.Bool.{and_parts, leb-true, ltb-true}
use Rattle.template_reader.specs.Texts.{is_short_number}

own : IsNumeralModel (λ ds. list_all is_ascii_digit ds ≡ true) (digits_value 10)
own = numerals_by_value _ (search rules)

-- `parse` gives the number of 1 to 4 digits
pub parse-is_short_number : {E : Type 0} (t : List ℕ) (r : Result ℕ E) → ParsesUnsigned 64 10 t r → is_short_number t ≡ true → r ≡ Ok (digits_value 10 t)
parse-is_short_number t r parses form =
    let parts = and_parts (nat_lt 0 (length t) && nat_le (length t) 4) (list_all is_ascii_digit t) form in
    let lengths = and_parts (nat_lt 0 (length t)) (nat_le (length t) 4) parts.0 in
    let short = digits_value_short own t 4 parts.1 (leb-true (length t) 4 lengths.1) in
    parse_gives own 64 t r parses parts.1 (ltb-true 0 (length t) lengths.0) (omega arith)
