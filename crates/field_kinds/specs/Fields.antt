-- The fields of the object at a path. A field that is null counts as absent, as in the Kubernetes API.
use Rattle.std.specs.Prelude.{ℕ, List, [], ◌∷◌, Option, Some, None, Ok, Err}
use Rattle.std.specs.Prelude.{Bool, true, false, ◌&&◌, bytes_eq, if◌then◌else◌}
use Rattle.serde_json.specs.Data.{Data, null, boolean, object, Members, no_members, member}
use Rattle.serde_json.specs.Find.{get}
use Rattle.json_fields.specs.Paths.{Path, field_of}
use Rattle.json_fields.specs.Fields.{says_nothing}
use Rattle.field_kinds.specs.Reading.{Read, ◌>>=◌, Kind, refuse_by, or_missing, or_bad}
use Rattle.field_kinds.specs.Rules as rules
use Rattle.field_kinds.specs.Kinds.{text, list_of}

abbrev pub some : {A : Type 0} → Read A → Read (Option A)
some (Ok x) = Ok (Some x)
some (Err refusal) = Err refusal

abbrev pub present : {A : Type 0} → Kind A → Path → Option Data → Read (Option A)
present kind path None = Ok None
present kind path (Some null) = Ok None
present kind path (Some d) = some (kind path d)

-- a field that may be absent
abbrev pub optional : {A : Type 0} → Kind A → List ℕ → Kind (Option A)
optional kind name at d = present kind (field_of at name) (get name d)

-- refused where the field is absent
abbrev pub required : {A : Type 0} → Kind A → List ℕ → Kind A
required kind name at d = optional kind name at d >>= or_missing (field_of at name)

abbrev pub else_ : {A : Type 0} → A → Option A → Read A
else_ x (Some y) = Ok y
else_ x None = Ok x

-- x where the field is absent
abbrev pub default : {A : Type 0} → A → Kind A → List ℕ → Kind A
default x kind name at d = optional kind name at d >>= else_ x

-- the empty list where the field is absent
abbrev pub default_list : {A : Type 0} → ℕ → Kind A → List ℕ → Kind (List A)
default_list most kind = default [] (list_of most kind)

abbrev pub not_empty : Option (List ℕ) → Option (List ℕ)
not_empty (Some []) = None
not_empty o = o

-- a text; an empty one counts as absent
abbrev pub written_text : List ℕ → Kind (Option (List ℕ))
written_text name at d = optional text name at d >>= λ t. Ok (not_empty t)

-- a text, and t where the field is absent or an empty text
abbrev pub written_or : List ℕ → List ℕ → Kind (List ℕ)
written_or t name at d = written_text name at d >>= else_ t

abbrev pub optional_bad : {A : Type 0} → (List ℕ → Option A) → Path → Option (List ℕ) → Read (Option A)
optional_bad grammar path None = Ok None
optional_bad grammar path (Some t) = some (or_bad path (grammar t))

-- a text of a grammar; an empty one counts as absent
abbrev pub written_of : {A : Type 0} → (List ℕ → Option A) → List ℕ → Kind (Option A)
written_of grammar name at d = written_text name at d >>= optional_bad grammar (field_of at name)

-- a field that is required where the condition holds, and else not read
abbrev pub required_if : {A : Type 0} → Bool → Kind A → List ℕ → Kind (Option A)
required_if asked kind name at d = if asked then some (required kind name at d) else Ok None

-- ---- refused fields

-- refused where the field says something
abbrev pub unsupported : Path → Option Data → Read (Unit {0})
unsupported path None = Ok tt
unsupported path (Some d) = if says_nothing d then Ok tt else refuse_by rules.unsupported path

abbrev pub refused : List ℕ → Kind (Unit {0})
refused name at d = unsupported (field_of at name) (get name d)

-- the same of each of these fields, in this order
abbrev pub refused_all : List (List ℕ) → Kind (Unit {0})
refused_all [] at d = Ok tt
refused_all (name ∷ names) at d = refused name at d >>= λ _. refused_all names at d

-- the same where the condition holds
abbrev pub refused_if : Bool → List ℕ → Kind (Unit {0})
refused_if asked name at d = if asked then refused name at d else Ok tt

abbrev pub unsupported_truth : Path → Option Data → Read (Unit {0})
unsupported_truth path (Some (boolean false)) = Ok tt
unsupported_truth path o = unsupported path o

-- the same of a field that may be false
abbrev pub refused_unless_false : List ℕ → Kind (Unit {0})
refused_unless_false name at d = unsupported_truth (field_of at name) (get name d)

abbrev pub unsupported_in : Bool → Path → Data → Read (Unit {0})
unsupported_in known path d = if known then Ok tt else unsupported path (Some d)

abbrev pub refused_members : List ℕ → Path → Members → Read (Unit {0})
refused_members but at no_members = Ok tt
refused_members but at (member key d ms) = do
  _ ← unsupported_in (bytes_eq key but) (field_of at key) d
  refused_members but at ms

-- every member of an object but one, in the order of the keys
abbrev pub refused_but : List ℕ → Kind (Unit {0})
refused_but but at (object ms) = refused_members but at ms
refused_but but at _ = Ok tt

-- ---- fields beside others

-- neither absent nor null
abbrev pub is_present : Option Data → Bool
is_present None = false
is_present (Some null) = false
is_present (Some d) = true

-- the field is there
abbrev pub has : List ℕ → Data → Bool
has name d = is_present (get name d)

-- a field that stands beside another is refused
abbrev pub no_second : Bool → List ℕ → Kind (Unit {0})
no_second there name at d = if there && has name d then refuse_by rules.unsupported (field_of at name) else Ok tt

-- what should stand at a path is missing, unless the condition holds
abbrev pub missing_unless : Bool → Path → Read (Unit {0})
missing_unless there path = if there then Ok tt else refuse_by rules.missing path

-- what stands at a path is not supported, where the condition holds
abbrev pub unsupported_if : Bool → Path → Read (Unit {0})
unsupported_if there path = if there then refuse_by rules.unsupported path else Ok tt
