-- Decimal numerals have no tags.
use Rattle.std.proofs.Common.{◌≡◌, ℕ, ◌+◌, ◌%◌, ◌<◌, ◌^◌, Bool, true, false, ◌&&◌, List, [], ◌∷◌, Some, None, Ok, refl, ◌∙◌, arith, decimal, nat_eq}
use Rattle.std.specs.List.{list_all}
use Rattle.std.specs.Char.{is_ascii_digit}
use Rattle.std.proofs.lemmas.Bool.Decides.{nat_tests}
use Rattle.std.proofs.lemmas.List.Folds.{list_all-append}
use Rattle.std.proofs.lemmas.Fmt.{decimal_by_steps}
use Rattle.tag_text.specs.Parts.{opening, cut, as_it_stands, parsed}
use Rattle.call_reader.specs.Tags.{tags}

both : (a b : Bool) → (a && b) ≡ true → (a ≡ true) × (b ≡ true)
both true true e = (refl, refl)
both true false e = absurd cc
both false b e = absurd cc

no_brace : (b : ℕ) → is_ascii_digit b ≡ true → nat_eq 123 b ≡ false
no_brace b h = grind (arith, nat_tests)

no_tag : (t : List ℕ) → list_all is_ascii_digit t ≡ true → cut opening t ≡ None
no_tag [] h = refl
no_tag (b ∷ bs) h =
    let parts = both (is_ascii_digit b) (list_all is_ascii_digit bs) h in
    rw (no_brace b parts.0, no_tag bs parts.1) refl

digits_parsed : (t : List ℕ) → list_all is_ascii_digit t ≡ true → parsed t ≡ Ok (as_it_stands t)
digits_parsed [] h = refl
digits_parsed (b ∷ bs) h = rw (no_tag (b ∷ bs) h) refl

digit_last : (n : ℕ) → is_ascii_digit (48 + n % 10) ≡ true
digit_last n = grind (arith, nat_tests)

digit_only : (n : ℕ) → n < 10 → list_all is_ascii_digit ((48 + n) ∷ []) ≡ true
digit_only n h = grind (arith, nat_tests)

all_digits : (n : ℕ) → n < 2 ^ 64 → list_all is_ascii_digit (decimal n) ≡ true
all_digits =
    decimal_by_steps (λ _ ds. list_all is_ascii_digit ds ≡ true) digit_only
    (λ n ds _ before. list_all-append is_ascii_digit ds _ ∙ rw (before, digit_last n) refl)

-- a numeral is one plain part
pub numeral : (n : ℕ) → n < 2 ^ 64 → tags (decimal n) ≡ Some (as_it_stands (decimal n))
numeral n h = rw (digits_parsed (decimal n) (all_digits n h)) refl
