-- Texts with tags, as kinds of values. That a text with a faulty tag is refused as it is read is this project's own.
use Rattle.std.specs.Prelude.{ℕ, suc, List, Option, Some, None, Ok}
use Rattle.std.specs.Result.{result_ok}
use Rattle.serde_json.specs.Data.{Data, null, boolean, number, string, array, object, Items, no_items, item, Members, no_members, member}
use Rattle.tag_text.specs.declared.part.Part.{Part}
use Rattle.tag_text.specs.Parts.{parsed}
use Rattle.json_fields.specs.Paths.{Path, field_of, member_of}
use Rattle.field_kinds.specs.Reading.{Read, ◌>>=◌, Kind, refuse_by}
use Rattle.field_kinds.specs.Rules as rules
use Rattle.field_kinds.specs.Kinds.{of}

-- the parts of a text, unless one of its tags is faulty
abbrev pub tags : List ℕ → Option (List Part)
tags t = result_ok (parsed t)

-- a text with tags, given as a text or as any text
abbrev pub tagged : Kind (List ℕ) → Kind (List Part)
tagged kind = of tags kind

-- ---- the texts inside a value

abbrev pub good_tags : Path → Option (List Part) → Read (Unit {0})
good_tags at (Some parts) = Ok tt
good_tags at None = refuse_by rules.bad_text at

-- The first text with a faulty tag is refused, inside lists and maps too. Keys are not looked at.
abbrev mutual
  pub good_texts : Path → Data → Read (Unit {0})
  good_texts at null = Ok tt
  good_texts at (boolean b) = Ok tt
  good_texts at (number n) = Ok tt
  good_texts at (string s) = good_tags at (tags s)
  good_texts at (array ds) = good_items at 0 ds
  good_texts at (object ms) = good_members at ms

  pub good_items : Path → ℕ → Items → Read (Unit {0})
  good_items at i no_items = Ok tt
  good_items at i (item d ds) = good_texts (member_of at i) d >>= λ _. good_items at (suc i) ds

  pub good_members : Path → Members → Read (Unit {0})
  good_members at no_members = Ok tt
  good_members at (member key d ms) = good_texts (field_of at key) d >>= λ _. good_members at ms

-- The items of a loop: a list as it stands, of any length.
abbrev pub loop_items : Kind Data
loop_items at (array ds) = good_items at 0 ds >>= λ _. Ok (array ds)
loop_items at _ = refuse_by rules.wrong_kind at
