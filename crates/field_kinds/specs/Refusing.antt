-- What a reader answers, against what the document reads as.
use Rattle.std.specs.Prelude.{◌≡◌, Result, Ok, Err}
use Rattle.json_fields.specs.declared.refused.FieldRefused.{FieldRefused}
use Rattle.json_fields.specs.declared.refused.FieldRefused.TheVariants as fields
use Rattle.field_kinds.specs.Reading.{Read, refuse_by}
use Rattle.field_kinds.specs.Rules as rules
use Rattle.field_kinds.specs.declared.refused.KindRefused.{KindRefused}
use Rattle.field_kinds.specs.declared.refused.KindRefused.TheVariants.{Memory, Rule}

-- a field that was not taken, by the rule that it breaks
abbrev pub refused_as : FieldRefused → KindRefused
refused_as fields.Memory = Memory
refused_as (fields.WrongKind path) = Rule rules.wrong_kind path
refused_as (fields.Unsupported path) = Rule rules.unsupported path

abbrev pub Refuses : {Y : Type 0} → KindRefused → Read Y → Type 0
Refuses Memory meant = Unit {0}
Refuses (Rule rule field) meant = meant ≡ refuse_by rule field

-- The reader answered what the document reads as, or that there was no memory.
abbrev pub Reads : {X : Type 0} → Result X KindRefused → Read X → Type 0
Reads (Ok x) meant = meant ≡ Ok x
Reads (Err refusal) meant = Refuses refusal meant

-- the same of a part of the document, seen by `see`
abbrev pub Shows : {X Y : Type 0} → (X → Y) → Result X KindRefused → Read Y → Type 0
Shows see (Ok x) meant = meant ≡ Ok (see x)
Shows see (Err refusal) meant = Refuses refusal meant
