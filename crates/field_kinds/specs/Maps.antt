-- Maps: objects whose keys are the document's. They go in the order of their keys, as `serde_json` keeps them.
use Rattle.std.specs.Prelude.{ℕ, List, [], ◌∷◌, Option, Some, None, Ok}
use Rattle.serde_json.specs.Data.{object, Members, no_members, member}
use Rattle.json_fields.specs.Paths.{Path, field_of}
use Rattle.field_kinds.specs.Reading.{Read, ◌>>=◌, Kind, refuse_by}
use Rattle.field_kinds.specs.Rules as rules
use Rattle.field_kinds.specs.Fields.{present}

abbrev pub and_then : {A : Type 0} → Option A → List A → List A
and_then (Some x) xs = x ∷ xs
and_then None xs = xs

-- A member that is null is absent, with its key.
abbrev pub entries : {A : Type 0} → (List ℕ → Kind A) → Path → Members → Read (List A)
entries entry at no_members = Ok []
entries entry at (member key d ms) = do
  x ← present (entry key) (field_of at key) (Some d)
  xs ← entries entry at ms
  Ok (and_then x xs)

-- a map, each of whose members is read by its key and its value
abbrev pub map_of : {A : Type 0} → (List ℕ → Kind A) → Kind (List A)
map_of entry at (object ms) = entries entry at ms
map_of entry at _ = refuse_by rules.wrong_kind at
