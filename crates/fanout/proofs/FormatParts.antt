-- The parts of a format, mark by mark.
use Rattle.std.proofs.Common.{◌≡◌, ◌≢◌, ◌⊎◌, ℕ, zero, suc, ◌+◌, ◌-◌, ◌<◌, ◌≤◌, Bool, true, false, ◌&&◌, List, [], ◌∷◌, ◌++◌, length, drop, get_or, arith, refl, sym, ◌∙◌, ap, inl, inr, codes, nat_eq, cond, Option, Some, None, Ok, Err, option_map, append_assoc}
use Rattle.std.specs.Prelude.{nat_le, ◌==◌, count_by}
use Rattle.std.specs.List.{starts_with, sum_by}
use Rattle.std.proofs.lemmas.Bool.{cond-true, cond-false, cases_Bool, eqb-true, ne_eqb, and_right}
use Rattle.std.proofs.lemmas.List.Sums.{sum_by-cons, sum_by-append}
use Rattle.tree_types.specs.declared.node.Note.TheVariants as note
use Rattle.fanout.specs.Sequences.{FormatPart, byte, number, Format, wide_number, behind_percent, and_part, and_rest, format_parts, is_number, checked_format}
use Rattle.fanout.specs.Inside.Shapes.{plain, around, parts_in, number_behind}

-- ---- enough steps are enough

rest_at : (a : Bool) (n : ℕ) (f g : List ℕ → Option Format) (p : FormatPart) (t : List ℕ) (w v : Option (FormatPart × List ℕ)) → f t ≡ g t → and_rest f w ≡ and_rest g w →
    and_rest f (cond a (Some (p, t)) w) ≡ and_rest g (cond a (Some (p, t)) w)
rest_at true n f g p t w v here later = ap (λ r. and_part p r) here
rest_at false n f g p t w v here later = later

length-drop1 : (t : List ℕ) → length (drop 1 t) ≤ length t
length-drop1 [] = omega arith
length-drop1 (b ∷ t) = omega arith

wide_same : (f g : List ℕ → Option Format) (t : List ℕ) → ((u : List ℕ) → length u ≤ length t → f u ≡ g u) → and_rest f (wide_number t) ≡ and_rest g (wide_number t)
wide_same f g [] same = refl
wide_same f g (z ∷ []) same = refl
wide_same f g (z ∷ n ∷ []) same = refl
wide_same f g (z ∷ n ∷ d ∷ t) same =
    rest_at ((z == 48) && nat_le 49 n && nat_le n 57 && (d == 100)) 0 f g (number (n - 48)) t None None (same t (omega arith)) refl

rest_same : (f g : List ℕ → Option Format) (t : List ℕ) → ((u : List ℕ) → length u ≤ length t → f u ≡ g u) → and_rest f (behind_percent t) ≡ and_rest g (behind_percent t)
rest_same f g t same =
    rest_at (starts_with nat_eq t (codes "%")) 0 f g (byte 37) (drop 1 t) (number_behind t) None (same (drop 1 t) (length-drop1 t))
    (rest_at (starts_with nat_eq t (codes "d")) 0 f g (number 0) (drop 1 t) (wide_number t) None (same (drop 1 t) (length-drop1 t)) (wide_same f g t same))

fuel : (n m : ℕ) (t : List ℕ) → length t ≤ n → length t ≤ m → format_parts n t ≡ format_parts m t
fuel zero zero t h k = refl
fuel zero (suc m) [] h k = refl
fuel zero (suc m) (b ∷ t) h k = absurd (omega arith)
fuel (suc n) zero [] h k = refl
fuel (suc n) zero (b ∷ t) h k = absurd (omega arith)
fuel (suc n) (suc m) [] h k = refl
fuel (suc n) (suc m) (b ∷ t) h k =
    let percent : and_rest (format_parts n) (behind_percent t) ≡ and_rest (format_parts m) (behind_percent t) =
    rest_same (format_parts n) (format_parts m) t (λ u short. fuel n m u (omega arith) (omega arith)) in
    let other : and_part (byte b) (format_parts n t) ≡ and_part (byte b) (format_parts m t) = ap (λ r. and_part (byte b) r) (fuel n m t (omega arith) (omega arith)) in
    elim (b == 37) as (λ c. cond c (and_rest (format_parts n) (behind_percent t)) (and_part (byte b) (format_parts n t)) ≡ cond c (and_rest (format_parts m) (behind_percent t)) (and_part (byte b) (format_parts m t)))
    [ true ↦ percent | false ↦ other ]

-- ---- text without a percent sign

map_id : (o : Option Format) → option_map (λ qs. qs) o ≡ o
map_id None = refl
map_id (Some qs) = refl

and_map : (p : FormatPart) (ps : Format) (o : Option Format) → and_part p (option_map (λ qs. ps ++ qs) o) ≡ option_map (λ qs. (p ∷ ps) ++ qs) o
and_map p ps None = refl
and_map p ps (Some qs) = refl

abbrev pub Holds_none : List ℕ → Type 0
Holds_none t = (i : ℕ) → i < length t → get_or t i 0 ≢ 37

no_percent : (b : ℕ) (t : List ℕ) → Holds_none (b ∷ t) → (b == 37) ≡ false
no_percent b t none = ne_eqb b 37 (none 0 (omega arith))

none_later : (b : ℕ) (t : List ℕ) → Holds_none (b ∷ t) → Holds_none t
none_later b t none i h = none (suc i) (omega arith)

byte_first : (b : ℕ) (t : List ℕ) → (b == 37) ≡ false → parts_in (b ∷ t) ≡ and_part (byte b) (parts_in t)
byte_first b t other = cond-false (b == 37) (and_rest (format_parts (length t)) (behind_percent t)) (and_part (byte b) (format_parts (length t) t)) other

-- text and what follows its percent sign
pub parts_in-percent : (t behind : List ℕ) → Holds_none t → parts_in (t ++ 37 ∷ behind) ≡ option_map (λ qs. plain t ++ qs) (and_rest parts_in (behind_percent behind))
parts_in-percent [] behind none =
    rest_same (format_parts (length behind)) parts_in behind (λ u short. fuel (length behind) (length u) u short (omega arith)) ∙ sym (map_id (and_rest parts_in (behind_percent behind)))
parts_in-percent (b ∷ t) behind none =
    byte_first b (t ++ 37 ∷ behind) (no_percent b t none)
    ∙ ap (λ r. and_part (byte b) r) (parts_in-percent t behind (none_later b t none))
    ∙ and_map (byte b) (plain t) (and_rest parts_in (behind_percent behind))

-- text alone
pub parts_in-plain : (t : List ℕ) → Holds_none t → parts_in t ≡ Some (plain t)
parts_in-plain [] none = refl
parts_in-plain (b ∷ t) none = byte_first b t (no_percent b t none) ∙ ap (λ r. and_part (byte b) r) (parts_in-plain t (none_later b t none))

-- ---- behind a percent sign

plain-append : (s t : List ℕ) → plain (s ++ t) ≡ plain s ++ plain t
plain-append [] t = refl
plain-append (b ∷ s) t = ap (λ x. byte b ∷ x) (plain-append s t)

front_map : (s t : List ℕ) (o : Option Format) → option_map (λ qs. plain s ++ qs) (option_map (λ qs. plain t ++ qs) o) ≡ option_map (λ qs. plain (s ++ t) ++ qs) o
front_map s t None = refl
front_map s t (Some qs) = ap Some (sym (append_assoc (plain s) (plain t) qs) ∙ ap (λ x. x ++ qs) (sym (plain-append s t)))

and_front : (t : List ℕ) (b : ℕ) (o : Option Format) → option_map (λ qs. plain t ++ qs) (and_part (byte b) o) ≡ option_map (λ qs. plain (t ++ b ∷ []) ++ qs) o
and_front t b None = refl
and_front t b (Some qs) = ap Some (sym (append_assoc (plain t) (byte b ∷ []) qs) ∙ ap (λ x. x ++ qs) (sym (plain-append t (b ∷ []))))

-- `%%` is a percent sign
pub parts_in-double : (t more : List ℕ) → Holds_none t → parts_in (t ++ 37 ∷ 37 ∷ more) ≡ option_map (λ qs. plain (t ++ 37 ∷ []) ++ qs) (parts_in more)
parts_in-double t more none = parts_in-percent t (37 ∷ more) none ∙ and_front t 37 (parts_in more)

pub behind-number : (behind : List ℕ) → ((rest : List ℕ) → behind ≢ 37 ∷ rest) → behind_percent behind ≡ number_behind behind
behind-number [] other = refl
behind-number (b ∷ behind) other =
    let not_double : (nat_eq 37 b && true) ≡ false = elim (cases_Bool (nat_eq 37 b)) [
      | inl same ↦ absurd (other behind (ap (λ x. x ∷ behind) (sym (eqb-true 37 b same))))
      | inr differs ↦ ap (λ x. x && true) differs
    ] in
    cond-false (nat_eq 37 b && true) (Some (byte 37, behind)) (number_behind (b ∷ behind)) not_double

number_front : (t : List ℕ) (w : ℕ) (o : Option Format) → option_map (λ qs. plain t ++ qs) (and_part (number w) o) ≡ option_map (around t w) o
number_front t w None = refl
number_front t w (Some qs) = refl

-- a number behind text
pub parts_in-number : (t behind after : List ℕ) (w : ℕ) → Holds_none t → ((rest : List ℕ) → behind ≢ 37 ∷ rest) → number_behind behind ≡ Some (number w, after) →
    parts_in (t ++ 37 ∷ behind) ≡ option_map (around t w) (parts_in after)
parts_in-number t behind after w none other is =
    parts_in-percent t behind none
    ∙ ap (λ r. option_map (λ qs. plain t ++ qs) (and_rest parts_in r)) (behind-number behind other ∙ is)
    ∙ number_front t w (parts_in after)

-- no number behind a percent sign
pub parts_in-bad : (t behind : List ℕ) → Holds_none t → ((rest : List ℕ) → behind ≢ 37 ∷ rest) → number_behind behind ≡ None → parts_in (t ++ 37 ∷ behind) ≡ None
parts_in-bad t behind none other is =
    parts_in-percent t behind none ∙ ap (λ r. option_map (λ qs. plain t ++ qs) (and_rest parts_in r)) (behind-number behind other ∙ is)

pub around_map : (s t : List ℕ) (w : ℕ) (o : Option Format) → option_map (λ qs. plain s ++ qs) (option_map (around t w) o) ≡ option_map (around (s ++ t) w) o
around_map s t w None = refl
around_map s t w (Some qs) = ap Some (sym (append_assoc (plain s) (plain t) (number w ∷ qs)) ∙ ap (λ x. x ++ number w ∷ qs) (sym (plain-append s t)))

-- ---- how many numbers there are

abbrev one : FormatPart → ℕ
one p = cond (is_number p) 1 0

count-plain : (t : List ℕ) → sum_by one (plain t) ≡ 0
count-plain [] = refl
count-plain (b ∷ t) = omega (arith, sum_by-cons one (byte b) (plain t), count-plain t)

count-around : (t : List ℕ) (w : ℕ) (qs : Format) → sum_by one (around t w qs) ≡ 1 + sum_by one qs
count-around t w qs = sum_by-append one (plain t) (number w ∷ qs) ∙ omega (arith, count-plain t, sum_by-cons one (number w) qs)

not_one : (ps : Format) → count_by is_number ps ≢ 1 → checked_format (Some ps) ≡ Err note.BadFormat
not_one ps other = cond-false (count_by is_number ps == 1) (Ok ps) (Err note.BadFormat) (ne_eqb (count_by is_number ps) 1 other)

pub checked-plain : (t : List ℕ) → checked_format (Some (plain t)) ≡ Err note.BadFormat
checked-plain t = not_one (plain t) (λ e. omega (arith, count-plain t))

-- text, one number and text
pub checked-around : (t after : List ℕ) (w : ℕ) → checked_format (Some (around t w (plain after))) ≡ Ok (around t w (plain after))
checked-around t after w =
    let e : (count_by is_number (around t w (plain after)) == 1) ≡ true = ap (λ n. n == 1) (count-around t w (plain after) ∙ ap (λ n. 1 + n) (count-plain after)) in
    cond-true (count_by is_number (around t w (plain after)) == 1) (Ok (around t w (plain after))) (Err note.BadFormat) e

-- two numbers
two_numbers : (t s : List ℕ) (w v : ℕ) (o : Option Format) → checked_format (option_map (around t w) (option_map (around s v) o)) ≡ Err note.BadFormat
two_numbers t s w v None = refl
two_numbers t s w v (Some qs) = not_one (around t w (around s v qs)) (λ e. omega (arith, count-around t w (around s v qs), count-around s v qs))

abbrev Numbered : Type 0
Numbered = Option (FormatPart × List ℕ)

abbrev if_number : Bool → ℕ → List ℕ → Numbered
if_number c w t = let read : FormatPart × List ℕ = (number w, t) in cond c (Some read) None

wide_is : (c : Bool) (w : ℕ) (t : List ℕ) → (if_number c w t ≡ None) ⊎ ((v : ℕ) × (u : List ℕ) × (if_number c w t ≡ Some (number v, u)))
wide_is true w t = inr (w, t, refl)
wide_is false w t = inl refl

wide_cases : (t : List ℕ) → (wide_number t ≡ None) ⊎ ((v : ℕ) × (u : List ℕ) × (wide_number t ≡ Some (number v, u)))
wide_cases [] = inl refl
wide_cases (z ∷ []) = inl refl
wide_cases (z ∷ n ∷ []) = inl refl
wide_cases (z ∷ n ∷ d ∷ t) = wide_is ((z == 48) && nat_le 49 n && nat_le n 57 && (d == 100)) (n - 48) t

number_cases : (t : List ℕ) → (number_behind t ≡ None) ⊎ ((v : ℕ) × (u : List ℕ) × (number_behind t ≡ Some (number v, u)))
number_cases t =
    elim (cases_Bool (starts_with nat_eq t (codes "d"))) [
      | inl short ↦ inr (0, drop 1 t, cond-true (starts_with nat_eq t (codes "d")) (Some (number 0, drop 1 t)) (wide_number t) short)
      | inr other ↦
          let e = cond-false (starts_with nat_eq t (codes "d")) (Some (number 0, drop 1 t)) (wide_number t) other in
          elim (wide_cases t) [ inl none ↦ inl (e ∙ none) | inr some ↦ inr (some.0, some.1, e ∙ some.2) ]
    ]

-- behind a number, a percent sign that is not double makes no format
pub parts_in-second : (s t behind : List ℕ) → Holds_none t → ((rest : List ℕ) → behind ≢ 37 ∷ rest) →
    (before : List ℕ) (w : ℕ) → checked_format (option_map (around before w) (option_map (λ qs. plain s ++ qs) (parts_in (t ++ 37 ∷ behind)))) ≡ Err note.BadFormat
parts_in-second s t behind none other before w =
    elim (number_cases behind) [
      | inl bad ↦ ap (λ o. checked_format (option_map (around before w) (option_map (λ qs. plain s ++ qs) o))) (parts_in-bad t behind none other bad)
      | inr some ↦
          ap (λ o. checked_format (option_map (around before w) (option_map (λ qs. plain s ++ qs) o))) (parts_in-number t behind some.1 some.0 none other some.2)
          ∙ ap (λ o. checked_format (option_map (around before w) o)) (around_map s t some.0 (parts_in some.1))
          ∙ two_numbers before (s ++ t) w some.0 (parts_in some.1)
    ]

-- ---- the steps of reading

module _ (text before t behind rest : List ℕ) (so_far : parts_in text ≡ option_map (λ qs. plain before ++ qs) (parts_in rest)) (cut : rest ≡ t ++ 37 ∷ behind) (none : Holds_none t) where
  here : parts_in text ≡ option_map (λ qs. plain before ++ qs) (parts_in (t ++ 37 ∷ behind))
  here = so_far ∙ ap (λ r. option_map (λ qs. plain before ++ qs) (parts_in r)) cut

  pub step_double : (more : List ℕ) → behind ≡ 37 ∷ more → parts_in text ≡ option_map (λ qs. plain ((before ++ t) ++ 37 ∷ []) ++ qs) (parts_in more)
  step_double more is =
      here
      ∙ ap (λ r. option_map (λ qs. plain before ++ qs) (parts_in (t ++ 37 ∷ r))) is
      ∙ ap (λ o. option_map (λ qs. plain before ++ qs) o) (parts_in-double t more none)
      ∙ front_map before (t ++ 37 ∷ []) (parts_in more)
      ∙ ap (λ x. option_map (λ qs. plain x ++ qs) (parts_in more)) (sym (append_assoc before t (37 ∷ [])))

  pub step_number : ((more : List ℕ) → behind ≢ 37 ∷ more) → (w : ℕ) (after : List ℕ) → number_behind behind ≡ Some (number w, after) → parts_in text ≡ option_map (around (before ++ t) w) (parts_in after)
  step_number other w after is =
      here ∙ ap (λ o. option_map (λ qs. plain before ++ qs) o) (parts_in-number t behind after w none other is) ∙ around_map before t w (parts_in after)

  pub step_bad : ((more : List ℕ) → behind ≢ 37 ∷ more) → number_behind behind ≡ None → checked_format (parts_in text) ≡ Err note.BadFormat
  step_bad other is = ap checked_format (here ∙ ap (λ o. option_map (λ qs. plain before ++ qs) o) (parts_in-bad t behind none other is))

  pub step_second : ((more : List ℕ) → behind ≢ 37 ∷ more) → (front : List ℕ) (w : ℕ) → checked_format (option_map (around front w) (parts_in text)) ≡ Err note.BadFormat
  step_second other front w = ap (λ o. checked_format (option_map (around front w) o)) here ∙ parts_in-second before t behind none other front w

module _ (text before rest : List ℕ) (so_far : parts_in text ≡ option_map (λ qs. plain before ++ qs) (parts_in rest)) (none : Holds_none rest) where
  pub step_last : parts_in text ≡ Some (plain (before ++ rest))
  step_last = so_far ∙ ap (λ o. option_map (λ qs. plain before ++ qs) o) (parts_in-plain rest none) ∙ ap Some (sym (plain-append before rest))

  pub step_plain : checked_format (parts_in text) ≡ Err note.BadFormat
  step_plain = ap checked_format step_last ∙ checked-plain (before ++ rest)

-- ---- the width of a number

pub not_short : (t : List ℕ) → ((rest : List ℕ) → t ≢ 100 ∷ rest) → number_behind t ≡ wide_number t
not_short [] other = refl
not_short (b ∷ t) other =
    let not_d : (nat_eq 100 b && true) ≡ false = elim (cases_Bool (nat_eq 100 b)) [
      | inl same ↦ absurd (other t (ap (λ x. x ∷ t) (sym (eqb-true 100 b same))))
      | inr differs ↦ ap (λ x. x && true) differs
    ] in
    cond-false (nat_eq 100 b && true) (Some (number 0, t)) (wide_number (b ∷ t)) not_d

pub wide_number-no_zero : (t : List ℕ) → ((rest : List ℕ) → t ≢ 48 ∷ rest) → wide_number t ≡ None
wide_number-no_zero [] other = refl
wide_number-no_zero (z ∷ []) other = refl
wide_number-no_zero (z ∷ n ∷ []) other = refl
wide_number-no_zero (z ∷ n ∷ d ∷ t) other =
    let zero_not : (z == 48) ≡ false = ne_eqb z 48 (λ e. other (n ∷ d ∷ t) (ap (λ x. x ∷ n ∷ d ∷ t) e)) in
    ap (λ c. if_number (c && nat_le 49 n && nat_le n 57 && (d == 100)) (n - 48) t) zero_not

pub wide_number-no_end : (z n : ℕ) (t : List ℕ) → ((rest : List ℕ) → t ≢ 100 ∷ rest) → wide_number (z ∷ n ∷ t) ≡ None
wide_number-no_end z n [] other = refl
wide_number-no_end z n (d ∷ t) other =
    let end_not : (d == 100) ≡ false = ne_eqb d 100 (λ e. other t (ap (λ x. x ∷ t) e)) in
    cond-false ((z == 48) && nat_le 49 n && nat_le n 57 && (d == 100)) (Some (number (n - 48), t)) None (and_right ((z == 48) && nat_le 49 n && nat_le n 57) (d == 100) end_not)

-- a text that is not empty is its first byte and the rest
pub head_rest : (t : List ℕ) (b : ℕ) → 0 < length t → get_or t 0 0 ≡ b → t ≡ b ∷ drop 1 t
head_rest [] b some first = absurd (omega arith)
head_rest (c ∷ t) b some first = ap (λ x. x ∷ t) first

-- `0` and no `Nd` behind it is no number
pub number_behind-zero : (t wide tail : List ℕ) (n : ℕ) → ((rest : List ℕ) → t ≢ 100 ∷ rest) → t ≡ 48 ∷ wide → wide ≡ n ∷ tail → ((rest : List ℕ) → tail ≢ 100 ∷ rest) → number_behind t ≡ None
number_behind-zero t wide tail n no_d front digit no_end =
    not_short t no_d ∙ ap wide_number (front ∙ ap (λ x. 48 ∷ x) digit) ∙ wide_number-no_end 48 n tail no_end
