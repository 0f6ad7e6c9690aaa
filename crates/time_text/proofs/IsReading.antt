-- A text of the grammar says just the seconds that `duration_of` gives, and no other text says any.
use Rattle.std.proofs.Common.{◌≡◌, ◌≢◌, ◌⊎◌, ℕ, ◌<◌, ◌+◌, ◌*◌, Bool, true, false, ◌&&◌, List, [], ◌∷◌, ◌++◌, length, take, drop, arith, refl, sym, ◌∙◌, ap, subst, inl, inr, codes, Ok, Err, append_assoc, append-nil, nat_lt, nat_eq}
use Rattle.std.proofs.Math.Numerals.{one-add}
use Rattle.std.specs.Prelude.{nat_le, ◌==◌}
use Rattle.std.specs.List.{list_all, prefix_len, starts_with}
use Rattle.std.specs.Char.{is_ascii_digit}
use Rattle.std.specs.Str.Parse.{digits_value}
use Rattle.std.proofs.lemmas.Bool.{and_parts, and_right, cond-true, cond-false, cases_Bool, leb-true, leb-false, eqb-true}
use Rattle.std.proofs.lemmas.List.{take-append-drop}
use Rattle.std.proofs.Math.Seq.{take-append_seam, drop-append_seam}
use Rattle.time_text.specs.declared.duration.DurationRefused.TheVariants.{BadForm, TooLong}
use Rattle.base_types.specs.Limits.{most_seconds}
use Rattle.time_text.specs.Durations.{is_number, front_digits, after_digits, begins_with_part, front_part, after_part, within_most, sum_of_parts, seconds_of_parts, duration_of, IsPart, IsParts, IsDuration, IsReading}
use Rattle.time_text.proofs.DurationOf.{duration_of-number, duration_of-parts}
use Rattle.time_text.proofs.IsNumber.{all_digits}

-- digits before a letter are the digits at the front
prefix_len-digits : (ds : List ℕ) (v : ℕ) (rest : List ℕ) → list_all is_ascii_digit ds ≡ true → is_ascii_digit v ≡ false → prefix_len is_ascii_digit (ds ++ v ∷ rest) ≡ length ds
prefix_len-digits [] v rest all letter = cond-false (is_ascii_digit v) (1 + prefix_len is_ascii_digit rest) 0 letter
prefix_len-digits (d ∷ ds) v rest all letter =
    let parts = and_parts (is_ascii_digit d) (list_all is_ascii_digit ds) all in
    cond-true (is_ascii_digit d) (1 + prefix_len is_ascii_digit (ds ++ v ∷ rest)) 0 parts.0
    ∙ ap (λ n. 1 + n) (prefix_len-digits ds v rest parts.1 letter)
    ∙ one-add (length ds)

all_digits-letter : (ds : List ℕ) (v : ℕ) (rest : List ℕ) → is_ascii_digit v ≡ false → list_all is_ascii_digit (ds ++ v ∷ rest) ≡ false
all_digits-letter [] v rest letter = ap (λ b. b && list_all is_ascii_digit rest) letter
all_digits-letter (d ∷ ds) v rest letter = and_right (is_ascii_digit d) (list_all is_ascii_digit (ds ++ v ∷ rest)) (all_digits-letter ds v rest letter)

-- a text that begins with a number and a letter
module _ (ds : List ℕ) (v : ℕ) (rest : List ℕ) (form : is_number ds ≡ true) (letter : is_ascii_digit v ≡ false) where
  front : front_digits (ds ++ v ∷ rest) ≡ ds
  front = ap (λ n. take n (ds ++ v ∷ rest)) (prefix_len-digits ds v rest (all_digits ds form) letter) ∙ take-append_seam ds (v ∷ rest)

  after : after_digits (ds ++ v ∷ rest) ≡ v ∷ rest
  after = ap (λ n. drop n (ds ++ v ∷ rest)) (prefix_len-digits ds v rest (all_digits ds form) letter) ∙ drop-append_seam ds (v ∷ rest)

  begins : (unit : List ℕ) (b : Bool) → starts_with nat_eq (v ∷ rest) unit ≡ b → begins_with_part unit (ds ++ v ∷ rest) ≡ b
  begins unit b s =
      ap (λ x. is_number x && starts_with nat_eq (after_digits (ds ++ v ∷ rest)) unit) front
      ∙ ap (λ x. is_number ds && starts_with nat_eq x unit) after
      ∙ ap (λ x. x && starts_with nat_eq (v ∷ rest) unit) form
      ∙ s

-- a part of a unit, before a text that begins with none of that unit
module _ (u : ℕ) (letter : is_ascii_digit u ≡ false) (same : (rest : List ℕ) → starts_with nat_eq (u ∷ rest) (u ∷ []) ≡ true) where
  part_read : (x rest : List ℕ) (n : ℕ) → IsPart (u ∷ []) x n → begins_with_part (u ∷ []) rest ≡ false →
      (front_part (u ∷ []) (x ++ rest) ≡ n) × (after_part (u ∷ []) (x ++ rest) ≡ rest)
  part_read x rest n part none =
      elim part [
        | inl l ↦
            let P : List ℕ → Type 0 = λ x. (front_part (u ∷ []) (x ++ rest) ≡ n) × (after_part (u ∷ []) (x ++ rest) ≡ rest) in
            subst P (sym l.whole) (
              cond-false (begins_with_part (u ∷ []) rest) (digits_value 10 (front_digits rest)) 0 none ∙ sym l.value,
              cond-false (begins_with_part (u ∷ []) rest) (drop 1 (after_digits rest)) rest none,
            )
        | inr g ↦
            let P : List ℕ → Type 0 = λ t. (front_part (u ∷ []) t ≡ n) × (after_part (u ∷ []) t ≡ rest) in
            let t : List ℕ = g.digits ++ u ∷ rest in
            let whole : x ++ rest ≡ t = ap (λ x. x ++ rest) g.whole ∙ append_assoc g.digits (u ∷ []) rest in
            let here = begins g.digits u rest g.form letter (u ∷ []) true (same rest) in
            subst P (sym whole) (
              cond-true (begins_with_part (u ∷ []) t) (digits_value 10 (front_digits t)) 0 here ∙ ap (λ x. digits_value 10 x) (front g.digits u rest g.form letter) ∙ sym g.value,
              cond-true (begins_with_part (u ∷ []) t) (drop 1 (after_digits t)) t here ∙ ap (λ x. drop 1 x) (after g.digits u rest g.form letter),
            )
      ]

  -- it is no part of another unit
  no_other : (unit : List ℕ) → ((rest : List ℕ) → starts_with nat_eq (u ∷ rest) unit ≡ false) →
      (x rest : List ℕ) (n : ℕ) → IsPart (u ∷ []) x n → begins_with_part unit rest ≡ false → begins_with_part unit (x ++ rest) ≡ false
  no_other unit other x rest n part none =
      elim part [
        | inl l ↦ ap (λ x. begins_with_part unit (x ++ rest)) l.whole ∙ none
        | inr g ↦
            ap (λ x. begins_with_part unit (x ++ rest)) g.whole
            ∙ ap (λ t. begins_with_part unit t) (append_assoc g.digits (u ∷ []) rest)
            ∙ begins g.digits u rest g.form letter unit false (other rest)
      ]

  -- and no number
  no_number : (x rest : List ℕ) (n : ℕ) → IsPart (u ∷ []) x n → is_number rest ≡ false → is_number (x ++ rest) ≡ false
  no_number x rest n part none =
      elim part [
        | inl l ↦ ap (λ x. is_number (x ++ rest)) l.whole ∙ none
        | inr g ↦
            ap (λ x. is_number (x ++ rest)) g.whole
            ∙ ap (λ t. is_number t) (append_assoc g.digits (u ∷ []) rest)
            ∙ and_right (nat_lt 0 (length (g.digits ++ u ∷ rest)) && nat_le (length (g.digits ++ u ∷ rest)) 8) (list_all is_ascii_digit (g.digits ++ u ∷ rest)) (all_digits-letter g.digits u rest letter)
      ]

three_parts : (t fm fs rest : List ℕ) (h m s : ℕ) →
    (front_part (codes "h") t ≡ h) × (after_part (codes "h") t ≡ fm) →
    (front_part (codes "m") fm ≡ m) × (after_part (codes "m") fm ≡ fs) →
    (front_part (codes "s") fs ≡ s) × (after_part (codes "s") fs ≡ rest) →
    seconds_of_parts t ≡ sum_of_parts h m s rest
three_parts t fm fs rest h m s eh em es =
    ap (λ a. sum_of_parts (front_part (codes "h") t) (front_part (codes "m") a) (front_part (codes "s") (after_part (codes "m") a)) (after_part (codes "s") (after_part (codes "m") a))) eh.1
    ∙ ap (λ a. sum_of_parts (front_part (codes "h") t) (front_part (codes "m") fm) (front_part (codes "s") a) (after_part (codes "s") a)) em.1
    ∙ ap (λ a. sum_of_parts a (front_part (codes "m") fm) (front_part (codes "s") fs) (after_part (codes "s") fs)) eh.0
    ∙ ap (λ a. sum_of_parts h a (front_part (codes "s") fs) (after_part (codes "s") fs)) em.0
    ∙ ap (λ a. sum_of_parts h m a (after_part (codes "s") fs)) es.0
    ∙ ap (λ a. sum_of_parts h m s a) es.1

some_length : (t : List ℕ) → t ≢ [] → 0 < length t
some_length [] some = absurd (some refl)
some_length (b ∷ bs) some = omega arith

parts_said : (t : List ℕ) (n : ℕ) → IsParts t n → duration_of t ≡ within_most n
parts_said t n p =
    let s_end : p.seconds ++ [] ≡ p.seconds = append-nil p.seconds in
    let no_h_s : begins_with_part (codes "h") p.seconds ≡ false =
    ap (λ x. begins_with_part (codes "h") x) (sym s_end) ∙ no_other 115 refl (λ r. refl) (codes "h") (λ r. refl) p.seconds [] p.s p.of_seconds refl in
    let no_m_s : begins_with_part (codes "m") p.seconds ≡ false =
    ap (λ x. begins_with_part (codes "m") x) (sym s_end) ∙ no_other 115 refl (λ r. refl) (codes "m") (λ r. refl) p.seconds [] p.s p.of_seconds refl in
    let no_h : begins_with_part (codes "h") (p.minutes ++ p.seconds) ≡ false =
    no_other 109 refl (λ r. refl) (codes "h") (λ r. refl) p.minutes p.seconds p.m p.of_minutes no_h_s in
    let number_s : is_number p.seconds ≡ false = ap (λ x. is_number x) (sym s_end) ∙ no_number 115 refl (λ r. refl) p.seconds [] p.s p.of_seconds refl in
    let number_m = no_number 109 refl (λ r. refl) p.minutes p.seconds p.m p.of_minutes number_s in
    let number_h = no_number 104 refl (λ r. refl) p.hours (p.minutes ++ p.seconds) p.h p.of_hours number_m in
    let hours = part_read 104 refl (λ r. refl) p.hours (p.minutes ++ p.seconds) p.h p.of_hours no_h in
    let minutes = part_read 109 refl (λ r. refl) p.minutes p.seconds p.m p.of_minutes no_m_s in
    let seconds = part_read 115 refl (λ r. refl) p.seconds [] p.s p.of_seconds refl in
    let P : List ℕ → Type 0 = λ x. (front_part (codes "s") x ≡ p.s) × (after_part (codes "s") x ≡ []) in
    let sum = three_parts (p.hours ++ (p.minutes ++ p.seconds)) (p.minutes ++ p.seconds) p.seconds [] p.h p.m p.s hours minutes (subst P s_end seconds) in
    duration_of-parts t (ap (λ x. is_number x) p.whole ∙ number_h) (some_length t p.some)
    ∙ ap (λ x. seconds_of_parts x) p.whole
    ∙ sum
    ∙ ap (λ x. within_most x) (sym p.value)

-- what the grammar says is what `duration_of` computes
pub duration_of-IsDuration : (t : List ℕ) (n : ℕ) → IsDuration t n → duration_of t ≡ within_most n
duration_of-IsDuration t n said =
    elim said [
      | inl number ↦ duration_of-number t number.form ∙ ap (λ x. within_most x) (sym number.value)
      | inr parts ↦ parts_said t n parts
    ]

begins_as : (u : ℕ) (l : List ℕ) → starts_with nat_eq l (u ∷ []) ≡ true → l ≡ u ∷ drop 1 l
begins_as u [] s = cc
begins_as u (x ∷ xs) s = ap (λ y. y ∷ xs) (sym (eqb-true u x (and_parts (nat_eq u x) true s).0))

-- what a part takes from the front of a text is a part
taken : (u : ℕ) (t : List ℕ) → (x : List ℕ) × (t ≡ x ++ after_part (u ∷ []) t) × IsPart (u ∷ []) x (front_part (u ∷ []) t)
taken u t =
    elim (cases_Bool (begins_with_part (u ∷ []) t)) [
      | inl here ↦
          let parts = and_parts (is_number (front_digits t)) (starts_with nat_eq (after_digits t) (u ∷ [])) here in
          let number = cond-true (begins_with_part (u ∷ []) t) (digits_value 10 (front_digits t)) 0 here in
          let rest = cond-true (begins_with_part (u ∷ []) t) (drop 1 (after_digits t)) t here in
          let whole : t ≡ (front_digits t ++ u ∷ []) ++ after_part (u ∷ []) t =
          sym (take-append-drop (prefix_len is_ascii_digit t) t)
          ∙ ap (λ l. front_digits t ++ l) (begins_as u (after_digits t) parts.1)
          ∙ sym (append_assoc (front_digits t) (u ∷ []) (drop 1 (after_digits t)))
          ∙ ap (λ l. (front_digits t ++ u ∷ []) ++ l) (sym rest) in
          (front_digits t ++ u ∷ [], whole, inr (record { digits = front_digits t; form = parts.0; whole = refl; value = number }))
      | inr none ↦
          let number = cond-false (begins_with_part (u ∷ []) t) (digits_value 10 (front_digits t)) 0 none in
          let rest = cond-false (begins_with_part (u ∷ []) t) (drop 1 (after_digits t)) t none in
          ([], sym rest, inl (record { whole = refl; value = number }))
    ]

nothing : (t : List ℕ) → length t ≡ 0 → t ≡ []
nothing [] none = refl
nothing (b ∷ bs) none = absurd (omega arith)

parts_of : (t : List ℕ) → is_number t ≡ false → t ≢ [] →
    (seconds_of_parts t ≡ Err BadForm) ⊎ ((n : ℕ) × IsParts t n × (seconds_of_parts t ≡ within_most n))
parts_of t form some =
    let fm : List ℕ = after_part (codes "h") t in
    let fs : List ℕ = after_part (codes "m") fm in
    let rest : List ℕ = after_part (codes "s") fs in
    let h : ℕ = front_part (codes "h") t in
    let m : ℕ = front_part (codes "m") fm in
    let s : ℕ = front_part (codes "s") fs in
    let n : ℕ = 3600 * h + 60 * m + s in
    elim (cases_Bool (length rest == 0)) [
      | inl none ↦
          let hours = taken 104 t in
          let minutes = taken 109 fm in
          let seconds = taken 115 fs in
          let last : fs ≡ seconds.0 = seconds.1 ∙ ap (λ l. seconds.0 ++ l) (nothing rest (eqb-true (length rest) 0 none)) ∙ append-nil seconds.0 in
          let whole : t ≡ hours.0 ++ (minutes.0 ++ seconds.0) = hours.1 ∙ ap (λ l. hours.0 ++ l) (minutes.1 ∙ ap (λ l. minutes.0 ++ l) last) in
          inr (
            n,
            record {
              hours = hours.0;
              minutes = minutes.0;
              seconds = seconds.0;
              h = h;
              m = m;
              s = s;
              whole = whole;
              some = some;
              of_hours = hours.2;
              of_minutes = minutes.2;
              of_seconds = seconds.2;
              value = refl;
            },
            cond-true (length rest == 0) (within_most n) (Err BadForm) none,
          )
      | inr more ↦ inl (cond-false (length rest == 0) (within_most n) (Err BadForm) more)
    ]

said : (t : List ℕ) → (duration_of t ≡ Err BadForm) ⊎ ((n : ℕ) × IsDuration t n × (duration_of t ≡ within_most n))
said [] = inl refl
said (b ∷ bs) =
    let t : List ℕ = b ∷ bs in
    elim (cases_Bool (is_number t)) [
      | inl form ↦ inr (digits_value 10 t, inl (record { form = form; value = refl }), duration_of-number t form)
      | inr form ↦
          let to_parts = duration_of-parts t form (omega arith) in
          elim (parts_of t form (λ e. cc)) [
            | inl bad ↦ inl (to_parts ∙ bad)
            | inr found ↦ inr (found.0, inr found.1, to_parts ∙ found.2)
          ]
    ]

within_reads : (t : List ℕ) (n : ℕ) → IsDuration t n → IsReading t (within_most n)
within_reads t n d =
    elim (cases_Bool (nat_le n most_seconds)) [
      | inl within ↦ subst (λ r. IsReading t r) (sym (cond-true (nat_le n most_seconds) (Ok n) (Err TooLong) within)) (d, leb-true n most_seconds within)
      | inr above ↦ subst (λ r. IsReading t r) (sym (cond-false (nat_le n most_seconds) (Ok n) (Err TooLong) above)) (n, d, leb-false n most_seconds above)
    ]

within_form : (n : ℕ) → within_most n ≢ Err BadForm
within_form n bad =
    elim (cases_Bool (nat_le n most_seconds)) [
      | inl within ↦ let e = cond-true (nat_le n most_seconds) (Ok n) (Err TooLong) within in cc
      | inr above ↦ let e = cond-false (nat_le n most_seconds) (Ok n) (Err TooLong) above in cc
    ]

-- `duration_of` reads by the grammar
pub duration_of_reads : (t : List ℕ) → IsReading t (duration_of t)
duration_of_reads t =
    elim (said t) [
      | inl bad ↦ subst (λ r. IsReading t r) (sym bad) (λ n d. within_form n (sym (duration_of-IsDuration t n d) ∙ bad))
      | inr found ↦ subst (λ r. IsReading t r) (sym found.2) (within_reads t found.0 found.1)
    ]
