-- Rows of numbers, written in a format (Argo, "Loops"; field reference, `Sequence`).
-- The grammar of numbers and formats and their limits are this project's own.
use Rattle.std.specs.Prelude.{ℕ, zero, suc, ◌-◌, ◌^◌, ℤ, pos, negsuc, ◌+ℤ◌, ◌-ℤ◌, neg_ℤ, int_lt, nat_abs, List, [], ◌∷◌, ◌++◌, length, drop, Bool, true, false, ◌&&◌, nat_lt, nat_le, ◌==◌, nat_eq, Option, Some, None, Ok, Err, if◌then◌else◌, codes, decimal, replicate, count_by, flat_map}
use Rattle.std.specs.List.{starts_with, list_all}
use Rattle.std.specs.Char.{is_ascii_digit}
use Rattle.std.specs.Str.Parse.{digits_value}
use Rattle.base_types.specs.Limits.{most_items}
use Rattle.tree_types.specs.declared.node.Note.TheVariants.{BadNumber, BadFormat, TooManyItems}
use Rattle.scopes.specs.Substitution.{Found, ◌>>=◌}

-- ---- numbers

-- 1 to 13 digits
abbrev pub are_digits : List ℕ → Bool
are_digits t = nat_lt 0 (length t) && nat_le (length t) 13 && list_all is_ascii_digit t

abbrev pub in_range : ℕ → Found ℕ
in_range n = if nat_le n (10 ^ 12) then Ok n else Err BadNumber

abbrev pub natural_of : List ℕ → Found ℕ
natural_of t = if are_digits t then in_range (digits_value 10 t) else Err BadNumber

abbrev pub signed_by : List ℕ → Bool → Found ℤ
signed_by t true = natural_of (drop 1 t) >>= λ n. Ok (neg_ℤ (pos n))
signed_by t false = natural_of t >>= λ n. Ok (pos n)

-- an optional minus sign and 1 to 13 digits, from minus to plus 1,000,000,000,000
abbrev pub whole_of : List ℕ → Found ℤ
whole_of t = signed_by t (starts_with nat_eq t (codes "-"))

abbrev pub whole_or : ℤ → Option (List ℕ) → Found ℤ
whole_or z None = Ok z
whole_or z (Some t) = whole_of t

-- ---- the row

-- how many numbers, by what each is more than the one before, and the first
pub record Row : Type 0 where
  pub count : ℕ
  pub step : ℤ
  pub first : ℤ

-- from one number to another, both counted; downwards where the first is above the last
abbrev pub row_to : ℤ → ℤ → Row
row_to start end =
    record { count = suc (nat_abs (end -ℤ start)); step = if int_lt end start then negsuc 0 else pos 1; first = start }

-- as many numbers as `count` says
abbrev pub row_of_count : ℤ → ℤ → Found Row
row_of_count start (pos n) = Ok (record { count = n; step = pos 1; first = start })
row_of_count start (negsuc n) = Err BadNumber

-- the row of `count` and `start`, or of `start` and `end`
abbrev pub row_said : Option (List ℕ) → Option (List ℕ) → Option (List ℕ) → Found Row
row_said (Some count) start end = do
  n ← whole_of count
  first ← whole_or (pos 0) start
  row_of_count first n
row_said None start end = do
  first ← whole_or (pos 0) start
  last ← whole_or (pos 0) end
  Ok (row_to first last)

-- n numbers from a first one on
abbrev pub numbers_from : ℕ → ℤ → ℤ → List ℤ
numbers_from zero step z = []
numbers_from (suc n) step z = z ∷ numbers_from n step (z +ℤ step)

abbrev pub numbers : Row → List ℤ
numbers r = numbers_from r.count r.step r.first

abbrev pub few_enough : Row → Found Row
few_enough r = if nat_le r.count most_items then Ok r else Err TooManyItems

-- ---- formats

-- a part of a format: a byte as it stands, or the place of the number, at least so wide
pub data FormatPart : Type 0 where
  byte : ℕ → FormatPart
  number : ℕ → FormatPart

-- `%0Nd` with N from 1 to 9, behind its percent sign, and what follows it
abbrev pub wide_number : List ℕ → Option (FormatPart × List ℕ)
wide_number (z ∷ n ∷ d ∷ t) =
    if (z == 48) && nat_le 49 n && nat_le n 57 && (d == 100) then Some (number (n - 48), t) else None
wide_number _ = None

-- what stands behind a percent sign, and what follows it
abbrev pub behind_percent : List ℕ → Option (FormatPart × List ℕ)
behind_percent t =
    if starts_with nat_eq t (codes "%") then Some (byte 37, drop 1 t)
    else (if starts_with nat_eq t (codes "d") then Some (number 0, drop 1 t) else wide_number t)

abbrev pub Format : Type 0
Format = List FormatPart

abbrev pub and_part : FormatPart → Option Format → Option Format
and_part p None = None
and_part p (Some ps) = Some (p ∷ ps)

-- the part read, and the parts of what follows it
abbrev pub and_rest : (List ℕ → Option Format) → Option (FormatPart × List ℕ) → Option Format
and_rest parts None = None
and_rest parts (Some read) = and_part read.0 (parts read.1)

-- the parts of a text of at most n bytes
abbrev pub format_parts : ℕ → List ℕ → Option Format
format_parts zero t = Some []
format_parts (suc n) [] = Some []
format_parts (suc n) (b ∷ t) =
    if b == 37 then and_rest (format_parts n) (behind_percent t) else and_part (byte b) (format_parts n t)

abbrev pub is_number : FormatPart → Bool
is_number (byte b) = false
is_number (number n) = true

-- the number stands in it exactly once
abbrev pub checked_format : Option Format → Found Format
checked_format None = Err BadFormat
checked_format (Some ps) = if count_by is_number ps == 1 then Ok ps else Err BadFormat

abbrev pub format_of : List ℕ → Found Format
format_of t = checked_format (format_parts (length t) t)

abbrev pub format_or : Option (List ℕ) → Found Format
format_or None = format_of (codes "%d")
format_or (Some t) = format_of t

-- a number, filled up with zeros to a width, of which a minus sign counts as one
abbrev pub padded : ℕ → ℤ → List ℕ
padded width (pos n) = replicate (width - length (decimal n)) 48 ++ decimal n
padded width (negsuc n) = 45 ∷ (replicate (width - 1 - length (decimal (suc n))) 48 ++ decimal (suc n))

abbrev pub part_written : ℤ → FormatPart → List ℕ
part_written z (byte b) = b ∷ []
part_written z (number width) = padded width z

-- a number as the format writes it
abbrev pub written : Format → ℤ → List ℕ
written ps z = flat_map (part_written z) ps

-- ---- the texts of a sequence, or its first fault: a number, the format, too many

abbrev pub MaybeText : Type 0
MaybeText = Option (List ℕ)

abbrev pub sequence_texts : MaybeText → MaybeText → MaybeText → MaybeText → Found (Format × List ℤ)
sequence_texts count start end format = do
  row ← row_said count start end
  shape ← format_or format
  few ← few_enough row
  Ok (shape, numbers few)
