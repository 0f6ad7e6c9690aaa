-- A field of an object: absent, of the wanted kind, or refused. Null counts as absent, as in the Kubernetes API.
use Rattle.std.specs.Prelude.{◌≡◌, ℕ, Bool, true, false, if◌then◌else◌, List, Option, Some, None, Result, Ok, Err}
use Rattle.serde_json.specs.Data.{Data, null, array, no_items}
use Rattle.serde_json.specs.Find.{get}
use Rattle.json_fields.specs.declared.refused.FieldRefused.{FieldRefused}
use Rattle.json_fields.specs.declared.refused.FieldRefused.TheVariants.{Memory, WrongKind, Unsupported}
use Rattle.json_fields.specs.Paths.{Path, field_of}

-- what a field gives, or why it is refused
abbrev pub Taken : Type 0 → Type 0
Taken A = Result A FieldRefused

abbrev pub of_kind : {A : Type 0} → Path → Option A → Taken (Option A)
of_kind path (Some x) = Ok (Some x)
of_kind path None = Err (WrongKind path)

abbrev pub taken : {A : Type 0} → (Data → Option A) → Path → Option Data → Taken (Option A)
taken kind path None = Ok None
taken kind path (Some null) = Ok None
taken kind path (Some d) = of_kind path (kind d)

-- the field of that name, in the object at that path
abbrev pub field : {A : Type 0} → (Data → Option A) → List ℕ → Path → Data → Taken (Option A)
field kind name at d = taken kind (field_of at name) (get name d)

-- null and the empty list say nothing
abbrev pub says_nothing : Data → Bool
says_nothing null = true
says_nothing (array no_items) = true
says_nothing _ = false

abbrev pub unsupported : Path → Option Data → Taken (Unit {0})
unsupported path None = Ok tt
unsupported path (Some d) = if says_nothing d then Ok tt else Err (Unsupported path)

-- a field that may not say anything
abbrev pub refused : List ℕ → Path → Data → Taken (Unit {0})
refused name at d = unsupported (field_of at name) (get name d)

abbrev pub Refuses : {Y : Type 0} → FieldRefused → Taken Y → Type 0
Refuses Memory meant = Unit {0}
Refuses (WrongKind path) meant = meant ≡ Err (WrongKind path)
Refuses (Unsupported path) meant = meant ≡ Err (Unsupported path)

-- A call answered, seen by `see`, what is meant, or that there was no memory.
abbrev pub Gives : {X Y : Type 0} → (X → Y) → Result X FieldRefused → Taken Y → Type 0
Gives see (Ok x) meant = meant ≡ Ok (see x)
Gives see (Err refusal) meant = Refuses refusal meant
