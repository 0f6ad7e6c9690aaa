-- The digits of a number as a text and as a number of a sequence.
use Rattle.std.proofs.Common.{rules, ◌≡◌, ℕ, ◌^◌, ◌<◌, ◌≤◌, true, false, ◌&&◌, List, [], ◌∷◌, length, arith, refl, ap, ◌∙◌, nat_lt, nat_eq, codes, cond, inl, inr, None, Ok, Err, pos, decimal, option_map}
use Rattle.std.specs.Prelude.{nat_le}
use Rattle.std.specs.List.{list_all, starts_with}
use Rattle.std.specs.Char.{is_ascii_digit}
use Rattle.std.specs.Str.Parse.{digits_value}
use Rattle.std.proofs.lemmas.Str.Parse.{IsNumeralModel, numerals_by_value}
use Rattle.std.proofs.lemmas.Fmt.{digits_decimal, digits_value-decimal, decimal_nonempty, length-decimal-le}
use Rattle.std.proofs.lemmas.Bool.{and_parts, eqb-true, cases_Bool, lt-ltb, le-leb}
use Rattle.tree_types.specs.declared.node.Note.TheVariants.{BadNumber}
use Rattle.tag_text.specs.Parts.{cut, opening, behind, parsed, as_it_stands}
use Rattle.tag_text.proofs.Parsed.{parsed_plain}
use Rattle.scopes.specs.Substitution.{Found, ◌>>=◌}
use Rattle.fanout.specs.Sequences.{are_digits, in_range, natural_of, signed_by, whole_of}

own : IsNumeralModel (λ ds. list_all is_ascii_digit ds ≡ true) (digits_value 10)
own = numerals_by_value _ (search rules)

-- what is no digit is not the first of digits
not_digit : (m b : ℕ) → is_ascii_digit m ≡ false → is_ascii_digit b ≡ true → nat_eq m b ≡ false
not_digit m b other digit =
    elim (cases_Bool (nat_eq m b)) [
      | inl same ↦ let is : m ≡ b = eqb-true m b same in absurd (cc)
      | inr differs ↦ differs
    ]

first_digit : (m b : ℕ) (bs ms : List ℕ) → is_ascii_digit m ≡ false → list_all is_ascii_digit (b ∷ bs) ≡ true → starts_with nat_eq (b ∷ bs) (m ∷ ms) ≡ false
first_digit m b bs ms other digits =
    ap (λ c. c && starts_with nat_eq bs ms) (not_digit m b other (and_parts (is_ascii_digit b) (list_all is_ascii_digit bs) digits).0)

-- ---- as a text

uncut : (t : List ℕ) → list_all is_ascii_digit t ≡ true → cut opening t ≡ None
uncut [] digits = refl
uncut (b ∷ bs) digits = rw (first_digit 123 b bs (codes "{") refl digits) (ap (λ o. option_map (behind b) o) (uncut bs (and_parts (is_ascii_digit b) (list_all is_ascii_digit bs) digits).1))

-- they have no tag
pub parsed_decimal : (n : ℕ) → n < 2 ^ 64 → parsed (decimal n) ≡ Ok (as_it_stands (decimal n))
parsed_decimal n low = parsed_plain (decimal n) (uncut (decimal n) (digits_decimal own n low))

-- ---- as a number

unsigned : (t : List ℕ) → list_all is_ascii_digit t ≡ true → starts_with nat_eq t (codes "-") ≡ false
unsigned [] digits = refl
unsigned (b ∷ bs) digits = first_digit 45 b bs [] refl digits

pub whole_decimal : (n : ℕ) → n ≤ 1000 → whole_of (decimal n) ≡ Ok (pos n)
whole_decimal n few =
    let low : n < 2 ^ 64 = omega arith in
    let t = decimal n in
    let digits = digits_decimal own n low in
    let some : nat_lt 0 (length t) ≡ true = lt-ltb 0 (length t) (decimal_nonempty n low) in
    let short : nat_le (length t) 13 ≡ true = le-leb (length t) 13 (length-decimal-le 13 n (omega arith) (omega arith) low) in
    let form : are_digits t ≡ true = rw (some, short) digits in
    let value : digits_value 10 t ≡ n = digits_value-decimal own n low in
    let near : nat_le n (10 ^ 12) ≡ true = le-leb n (10 ^ 12) (omega arith) in
    let natural : natural_of t ≡ Ok n =
    ap (λ b. cond b (in_range (digits_value 10 t)) (Err BadNumber)) form ∙ ap in_range value ∙ ap (λ b. cond b (Ok n) (Err BadNumber)) near in
    ap (λ b. signed_by t b) (unsigned t digits) ∙ ap (λ (m : Found ℕ). m >>= λ k. Ok (pos k)) natural
