-- The kinds of values. The JSON types are those of the field reference; the refusals are this project's own.
use Rattle.std.specs.Prelude.{ℕ, suc, nat_lt, ℤ, pos, negsuc, int_lt, Bool, ◌||◌, if◌then◌else◌}
use Rattle.std.specs.Prelude.{List, [], ◌∷◌, Option, Some, None, Ok, option_and_then}
use Rattle.serde_json.specs.Data.{Data, object, Items, no_items, item}
use Rattle.serde_json.specs.Events.{items_len}
use Rattle.json_fields.specs.Paths.{Path, member_of}
use Rattle.json_fields.specs.Kinds as is
use Rattle.field_kinds.specs.Reading.{Read, ◌>>=◌, Kind, refuse_by, or_wrong, or_bad}
use Rattle.field_kinds.specs.Rules as rules

abbrev pub text : Kind (List ℕ)
text at d = or_wrong at (is.text d)

-- a text, a whole number or a truth value as text
abbrev pub any_text : Kind (List ℕ)
any_text at d = or_wrong at (is.any_text d)

abbrev pub flag : Kind Bool
flag at d = or_wrong at (is.flag d)

-- an object, as it stands
abbrev pub json_object : Kind Data
json_object at d = or_wrong at (is.object_ d)

-- a text of a grammar, given as a text or as any text
abbrev pub of : {A : Type 0} → (List ℕ → Option A) → Kind (List ℕ) → Kind A
of grammar kind at d = kind at d >>= λ t. or_bad at (grammar t)

-- ---- numbers

abbrev pub in_range : ℤ → ℤ → ℤ → Option ℤ
in_range low high z = if int_lt z low || int_lt high z then None else Some z

-- a whole number from low to high
abbrev pub whole_in : ℤ → ℤ → Kind ℤ
whole_in low high at d = or_wrong at (option_and_then (in_range low high) (is.whole d))

abbrev pub counted_in : ℕ → ℕ → ℤ → Option ℕ
counted_in low high (pos n) = if nat_lt n low || nat_lt high n then None else Some n
counted_in low high (negsuc n) = None

-- the same of numbers that are not negative
abbrev pub number_in : ℕ → ℕ → Kind ℕ
number_in low high at d = or_wrong at (option_and_then (counted_in low high) (is.whole d))

-- ---- objects and lists

-- refused where the value is no object
abbrev pub needs_object : Kind (Unit {0})
needs_object at (object ms) = Ok tt
needs_object at _ = refuse_by rules.wrong_kind at

-- an object, read by its fields
abbrev pub object_of : {A : Type 0} → Kind A → Kind A
object_of fields at d = needs_object at d >>= λ _. fields at d

-- each member in order, the first of these having that position
abbrev pub members : {A : Type 0} → Kind A → Path → ℕ → Items → Read (List A)
members kind at i no_items = Ok []
members kind at i (item d ds) = do
  x ← kind (member_of at i) d
  xs ← members kind at (suc i) ds
  Ok (x ∷ xs)

-- a list of any length
abbrev pub all_of : {A : Type 0} → Kind A → Kind (List A)
all_of kind at d = or_wrong at (is.list d) >>= members kind at 0

-- refused where a list is too long
abbrev pub at_most : ℕ → Path → Items → Read Items
at_most most at ds = if nat_lt most (items_len ds) then refuse_by rules.too_many at else Ok ds

abbrev pub needs_list : ℕ → Kind Items
needs_list most at d = or_wrong at (is.list d) >>= at_most most at

-- A list of at most so many members: its kind first, then its length, then its members.
abbrev pub list_of : {A : Type 0} → ℕ → Kind A → Kind (List A)
list_of most kind at d = needs_list most at d >>= members kind at 0
