-- What is found of a document, or its first refusal with the item that it is of.
use Rattle.std.specs.Prelude.{◌≡◌, ℕ, Result, Ok, Err}
use Rattle.json_fields.specs.Paths.{Path}
use Rattle.field_kinds.specs.Reading.{Read}
use Rattle.field_kinds.specs.declared.refused.KindRefused.{KindRefused}
use Rattle.field_kinds.specs.declared.refused.KindRefused.TheVariants as kinds
use Rattle.bundle_rules.specs.declared.refused.BundleRefused.{BundleRefused}
use Rattle.bundle_rules.specs.declared.refused.BundleRefused.TheVariants.{Memory, Rule}

-- a broken rule, the item that breaks it, and the path within the item
pub record Refused : Type 0 where
  pub item : ℕ
  pub rule : ℕ
  pub field : Path

abbrev pub Found : Type 0 → Type 0
Found A = Result A Refused

abbrev pub refuse : {A : Type 0} → ℕ → ℕ → Path → Found A
refuse item rule field = Err (record { item = item; rule = rule; field = field })

-- what is read of an item
abbrev pub of_item : {A : Type 0} → ℕ → Read A → Found A
of_item item (Ok x) = Ok x
of_item item (Err refusal) = refuse item refusal.rule refusal.field

abbrev pub refused_in : ℕ → KindRefused → BundleRefused
refused_in item kinds.Memory = Memory
refused_in item (kinds.Rule rule field) = Rule item rule field

abbrev pub IsRefusedAs : {Y : Type 0} → BundleRefused → Found Y → Type 0
IsRefusedAs Memory meant = Unit {0}
IsRefusedAs (Rule item rule field) meant = meant ≡ refuse item rule field

-- The call answered what the document is found to be, or that there was no memory.
abbrev pub Finds : {X : Type 0} → Result X BundleRefused → Found X → Type 0
Finds (Ok x) meant = meant ≡ Ok x
Finds (Err refused) meant = IsRefusedAs refused meant
