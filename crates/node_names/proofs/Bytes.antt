-- Runs of bytes.
use Rattle.std.proofs.Common.{◌≡◌, ◌≢◌, ℕ, ◌<◌, ◌^◌, nat_eq, Bool, true, false, not, List, [], ◌∷◌, ◌++◌, refl, ap, inl, inr, arith}
use Rattle.std.specs.Prelude.{decimal}
use Rattle.std.specs.Int.{IsInRange}
use Rattle.std.specs.List.{list_all}
use Rattle.std.specs.Str.Parse.{AllDigits, digits_value}
use Rattle.node_names.specs.Inside.Reading.{Stops}
use Rattle.std.proofs.lemmas.Str.Parse.{IsNumeralModel, numerals_by_value, tells_digits, digit_from_value}
use Rattle.std.proofs.lemmas.Fmt.{digits_decimal}
use Rattle.std.proofs.lemmas.Bool.{cases_Bool, and_parts, and_from}
use Rattle.std.proofs.lemmas.Bool.Decides.{Decides-eqb}

module _ (p : ℕ → Bool) where
  pub all_first : (b : ℕ) (bs : List ℕ) → list_all p (b ∷ bs) ≡ true → p b ≡ true
  all_first b bs all = (and_parts (p b) (list_all p bs) all).0

  pub all_rest : (b : ℕ) (bs : List ℕ) → list_all p (b ∷ bs) ≡ true → list_all p bs ≡ true
  all_rest b bs all = (and_parts (p b) (list_all p bs) all).1

  pub all_more : (b : ℕ) (bs : List ℕ) → p b ≡ true → list_all p bs ≡ true → list_all p (b ∷ bs) ≡ true
  all_more b bs first rest = and_from (p b) (list_all p bs) first rest

  -- two runs that stop in one text are the same
  pub runs_agree : (xs ys rest other : List ℕ) → list_all p xs ≡ true → list_all p ys ≡ true → Stops p rest → Stops p other → xs ++ rest ≡ ys ++ other → (xs ≡ ys) × (rest ≡ other)
  runs_agree [] [] rest other all_xs all_ys stops stop e = (refl, e)
  runs_agree [] (y ∷ ys) [] other all_xs all_ys stops stop e = absurd (cc)
  runs_agree [] (y ∷ ys) (b ∷ bs) other all_xs all_ys stops stop e = absurd (let first : b ≡ y = cc in let h = ap p first in let k = all_first y ys all_ys in cc)
  runs_agree (x ∷ xs) [] rest [] all_xs all_ys stops stop e = absurd (cc)
  runs_agree (x ∷ xs) [] rest (b ∷ bs) all_xs all_ys stops stop e = absurd (let first : x ≡ b = cc in let h = ap p first in let k = all_first x xs all_xs in cc)
  runs_agree (x ∷ xs) (y ∷ ys) rest other all_xs all_ys stops stop e =
      let h = runs_agree xs ys rest other (all_rest x xs all_xs) (all_rest y ys all_ys) stops stop (cc) in
      let first : x ≡ y = cc in
      let xs_is : xs ≡ ys = h.0 in
      (cc, h.1)

-- the digits of a number
pub numerals : IsNumeralModel (AllDigits 10) (digits_value 10)
numerals = numerals_by_value (AllDigits 10) tells_digits

module _ (p : ℕ → Bool) (passes : (c : ℕ) → IsInRange 48 57 c → p c ≡ true) where
  all_digits_pass : (ds : List ℕ) → AllDigits 10 ds → list_all p ds ≡ true
  all_digits_pass [] digits = refl
  all_digits_pass (d ∷ ds) digits = all_more p d ds (passes d (digit_from_value d digits.0)) (all_digits_pass ds digits.1)

  -- a test that digits pass is passed by a number's
  pub decimal_passes : (n : ℕ) → n < 2 ^ 32 → list_all p (decimal n) ≡ true
  decimal_passes n small = all_digits_pass (decimal n) (digits_decimal numerals n (omega arith))

-- any byte but this
abbrev pub is_not : ℕ → ℕ → Bool
is_not c b = not (nat_eq b c)

pub is_not_same : (c : ℕ) → is_not c c ≡ false
is_not_same c = ap not ((Decides-eqb c c).1 refl)

pub is_not_other : (c b : ℕ) → b ≢ c → is_not c b ≡ true
is_not_other c b differs = elim (cases_Bool (nat_eq b c)) [ inl same ↦ absurd (differs ((Decides-eqb b c).0 same)) | inr other ↦ ap not other ]
