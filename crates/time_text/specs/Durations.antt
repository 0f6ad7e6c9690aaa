-- Spans of time in a document. Argo's field reference gives them as texts, as `backoff.duration` and `suspend.duration`;
-- their grammar, the most that a span may be and the cut of a delay are this project's own.
use Rattle.std.specs.Prelude.{◌≡◌, ◌≢◌, ℕ, ◌+◌, ◌-◌, ◌*◌, ◌^◌, ◌<◌, ◌≤◌, min, List, [], ◌∷◌, ◌++◌, length, drop}
use Rattle.std.specs.Prelude.{Bool, ◌&&◌, nat_lt, nat_le, nat_eq, ◌==◌, IsTrue, ◌⊎◌, Result, Ok, Err, if◌then◌else◌, codes}
use Rattle.std.specs.List.{starts_with, take_while, prefix_len, list_all}
use Rattle.std.specs.Char.{is_ascii_digit}
use Rattle.std.specs.Str.Parse.{digits_value}
use Rattle.base_types.specs.Limits.{most_seconds}
use Rattle.time_text.specs.declared.duration.DurationRefused.{DurationRefused}
use Rattle.time_text.specs.declared.duration.DurationRefused.TheVariants.{BadForm, TooLong}

-- ---- the grammar

-- 1 to 8 digits
abbrev pub is_number : List ℕ → Bool
is_number t = nat_lt 0 (length t) && nat_le (length t) 8 && list_all is_ascii_digit t

-- t is a number and the letter of its unit
pub record IsGivenPart (unit t : List ℕ) (n : ℕ) : Type 0 where
  pub digits : List ℕ
  pub form : IsTrue (is_number digits)
  pub whole : t ≡ digits ++ unit
  pub value : n ≡ digits_value 10 digits

-- t is left out, which is 0 of the unit
pub record IsLeftOut (t : List ℕ) (n : ℕ) : Type 0 where
  pub whole : t ≡ []
  pub value : n ≡ 0

abbrev pub IsPart : List ℕ → List ℕ → ℕ → Type 0
IsPart unit t n = IsLeftOut t n ⊎ IsGivenPart unit t n

-- t is a number of seconds
pub record IsBareNumber (t : List ℕ) (n : ℕ) : Type 0 where
  pub form : IsTrue (is_number t)
  pub value : n ≡ digits_value 10 t

-- t is hours, minutes and seconds, in this order, of which each may be left out but not all
pub record IsParts (t : List ℕ) (n : ℕ) : Type 0 where
  pub hours : List ℕ
  pub minutes : List ℕ
  pub seconds : List ℕ
  pub h : ℕ
  pub m : ℕ
  pub s : ℕ
  pub whole : t ≡ hours ++ (minutes ++ seconds)
  pub some : t ≢ []
  pub of_hours : IsPart (codes "h") hours h
  pub of_minutes : IsPart (codes "m") minutes m
  pub of_seconds : IsPart (codes "s") seconds s
  pub value : n ≡ 3600 * h + 60 * m + s

-- t is of the grammar and says n seconds
abbrev pub IsDuration : List ℕ → ℕ → Type 0
IsDuration t n = IsBareNumber t n ⊎ IsParts t n

-- what a reading of t may answer: the seconds that t says, where they are not too many
abbrev pub IsReading : List ℕ → Result ℕ DurationRefused → Type 0
IsReading t (Ok n) = IsDuration t n × (n ≤ most_seconds)
IsReading t (Err TooLong) = (n : ℕ) × IsDuration t n × (most_seconds < n)
IsReading t (Err BadForm) = (n : ℕ) → ¬ IsDuration t n

-- ---- the seconds that a text says

-- the digits at the front of a text
abbrev pub front_digits : List ℕ → List ℕ
front_digits t = take_while is_ascii_digit t

-- what follows them
abbrev pub after_digits : List ℕ → List ℕ
after_digits t = drop (prefix_len is_ascii_digit t) t

abbrev pub begins_with_part : List ℕ → List ℕ → Bool
begins_with_part unit t = is_number (front_digits t) && starts_with nat_eq (after_digits t) unit

-- the number of the unit at the front of a text, 0 where none stands there
abbrev pub front_part : List ℕ → List ℕ → ℕ
front_part unit t = if begins_with_part unit t then digits_value 10 (front_digits t) else 0

-- what follows it
abbrev pub after_part : List ℕ → List ℕ → List ℕ
after_part unit t = if begins_with_part unit t then drop (length unit) (after_digits t) else t

abbrev pub within_most : ℕ → Result ℕ DurationRefused
within_most n = if nat_le n most_seconds then Ok n else Err TooLong

-- the seconds of three parts, where nothing follows them
abbrev pub sum_of_parts : ℕ → ℕ → ℕ → List ℕ → Result ℕ DurationRefused
sum_of_parts h m s rest = if length rest == 0 then within_most (3600 * h + 60 * m + s) else Err BadForm

abbrev pub seconds_of_parts : List ℕ → Result ℕ DurationRefused
seconds_of_parts t =
    let from_minutes = after_part (codes "h") t in
    let from_seconds = after_part (codes "m") from_minutes in
    sum_of_parts
    (front_part (codes "h") t)
    (front_part (codes "m") from_minutes)
    (front_part (codes "s") from_seconds)
    (after_part (codes "s") from_seconds)

-- the seconds that a text says, or why it says none
abbrev pub duration_of : List ℕ → Result ℕ DurationRefused
duration_of [] = Err BadForm
duration_of (b ∷ bs) =
    if is_number (b ∷ bs) then within_most (digits_value 10 (b ∷ bs)) else seconds_of_parts (b ∷ bs)

-- ---- the wait between two attempts of a retry

-- what attempt k waits: `backoff.duration` times `backoff.factor` to the power k - 1, cut at the most
abbrev pub delay : ℕ → ℕ → ℕ → ℕ
delay duration factor k = min most_seconds (duration * factor ^ (k - 1))
