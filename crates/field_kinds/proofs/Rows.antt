-- Rows that compute: what small values read as.
use Rattle.std.specs.Prelude.{◌≡◌, ℕ, List, [], ◌∷◌, Ok, codes, refl}
use Rattle.std.specs.Fmt.{digits}
use Rattle.serde_json.specs.Data.{Data, null, string, array, object, no_items, item, no_members, member}
use Rattle.field_kinds.specs.Reading.{Kind, refuse_by}
use Rattle.field_kinds.specs.Rules as rules
use Rattle.field_kinds.specs.Kinds.{text, object_of}
use Rattle.field_kinds.specs.Fields.{required, default_list}

-- the names of a list of objects
abbrev names : Kind (List (List ℕ))
names = default_list 2 (object_of (required text (codes "name"))) (codes "parameters")

abbrev named : Data
named = object (member (codes "name") (string (codes "a")) no_members)

abbrev nameless : Data
nameless = object (member (codes "name") null no_members)

abbrev listed : Data → Data
listed d = object (member (codes "parameters") (array (item named (item d no_items))) no_members)

both_named : names (codes "spec") (listed named) ≡ Ok (codes "a" ∷ codes "a" ∷ [])
both_named = refl

-- null counts as absent, and the path is the one that the name would have
second_nameless : names (codes "spec") (listed nameless) ≡ refuse_by rules.missing (codes "spec.parameters[1].name")
unfolding digits
second_nameless = refl

second_no_object : names [] (listed null) ≡ refuse_by rules.wrong_kind (codes "parameters[1]")
unfolding digits
second_no_object = refl

-- the kind of a list is looked at before its length, and its length before its members
no_list : names [] (object (member (codes "parameters") named no_members)) ≡ refuse_by rules.wrong_kind (codes "parameters")
no_list = refl

three : names [] (object (member (codes "parameters") (array (item null (item null (item null no_items)))) no_members)) ≡ refuse_by rules.too_many (codes "parameters")
three = refl
