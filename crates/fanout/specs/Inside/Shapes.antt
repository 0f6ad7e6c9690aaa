-- A format by its one number: the text before it, its width, and the text after it.
use Rattle.std.specs.Prelude.{◌≡◌, ℕ, List, [], ◌∷◌, ◌++◌, length, map, nat_eq, Option, Some, option_map, Result, Ok, Err, if◌then◌else◌, codes, drop}
use Rattle.std.specs.List.{starts_with}
use Rattle.std.specs.Borrow.{Bor}
use Rattle.tree_types.specs.declared.node.Note.TheVariants as note
use Rattle.fanout.specs.Sequences.{FormatPart, byte, number, Format, format_parts, wide_number, checked_format}
use Rattle.fanout.specs.declared.format.Format.{Format as Read}
use Rattle.fanout.specs.declared.refused.FanRefused.{FanRefused}
use Rattle.fanout.specs.declared.refused.FanRefused.TheVariants.{BadFormat, Memory}

-- text as parts
abbrev pub plain : List ℕ → Format
plain t = map byte t

-- text, the number, and these parts
abbrev pub around : List ℕ → ℕ → Format → Format
around before width after = plain before ++ number width ∷ after

-- the parts of a format that was read
abbrev pub parts_of_shape : Read → Format
parts_of_shape f = around f.before f.width (plain f.after)

-- the parts of a text, if they are all of the grammar
abbrev pub parts_in : List ℕ → Option Format
parts_in t = format_parts (length t) t

-- the front of a text up to its first number is read, or the text is no format
abbrev pub AfterFront : Result (List ℕ × ℕ × Bor (List ℕ)) FanRefused → List ℕ → Type 0
AfterFront (Ok front) t = parts_in t ≡ option_map (around front.0 front.1) (parts_in front.2.now)
AfterFront (Err BadFormat) t = checked_format (parts_in t) ≡ Err note.BadFormat
AfterFront (Err Memory) t = Unit {0}
AfterFront (Err _) t = ⊥

-- a text without a number is read, or it makes no format behind a number
abbrev pub AfterBack : Result (List ℕ) FanRefused → List ℕ → Type 0
AfterBack (Ok after) t = parts_in t ≡ Some (plain after)
AfterBack (Err BadFormat) t =
    (before : List ℕ) (width : ℕ) → checked_format (option_map (around before width) (parts_in t)) ≡ Err note.BadFormat
AfterBack (Err Memory) t = Unit {0}
AfterBack (Err _) t = ⊥

-- `d` or `0Nd` behind a percent sign, and what follows it
abbrev pub number_behind : List ℕ → Option (FormatPart × List ℕ)
number_behind t = if starts_with nat_eq t (codes "d") then Some (number 0, drop 1 t) else wide_number t

-- a width that was read, and what follows it
abbrev pub width_read : ℕ × Bor (List ℕ) → FormatPart × List ℕ
width_read front = (number front.0, front.1.now)

-- a text with one more pair, behind a comma where something stands before it
abbrev pub and_pair : List ℕ → List ℕ → List ℕ
and_pair [] p = p
and_pair (b ∷ t) p = (b ∷ t) ++ codes "," ++ p
