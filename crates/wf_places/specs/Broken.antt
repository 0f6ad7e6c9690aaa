-- Places at which a rule is broken.
use Rattle.std.specs.Prelude.{ℕ, List, [], ◌∷◌, ◌++◌, Bool, true, false, not, if◌then◌else◌, Option, Some, None, codes, nat_eq}
use Rattle.std.specs.List.{starts_with}
use Rattle.json_fields.specs.Paths.{Path, field_of}
use Rattle.field_kinds.specs.Rules as rules
use Rattle.wf_places.specs.declared.place.Place.{Place}

abbrev pub broken : ℕ → Bool → Path → List Place
broken rule is path = if is then record { rule = rule; field = path } ∷ [] else []

-- ---- names

-- `{{` stands somewhere in the text, so that it has a tag
abbrev pub has_tag : List ℕ → Bool
has_tag [] = false
has_tag (b ∷ t) = if starts_with nat_eq (b ∷ t) (codes "{{") then true else has_tag t

-- a text in which no tag may stand
abbrev pub plain_places : Path → List ℕ → List Place
plain_places path text = broken rules.misplaced_tag (has_tag text) path

abbrev pub plain_if_there : Path → Option (List ℕ) → List Place
plain_if_there path None = []
plain_if_there path (Some text) = plain_places path text

-- A name: whether an earlier one of its list is equal, and whether it is of its grammar. A tag is of no grammar of names.
abbrev pub name_places : Bool → Bool → Path → List Place
name_places again fits at =
    broken rules.double_name again (field_of at (codes "name"))
    ++ broken rules.bad_name (not fits) (field_of at (codes "name"))
