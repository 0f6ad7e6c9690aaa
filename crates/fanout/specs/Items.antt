-- The items of a loop, or its first fault (Argo, "Loops"; field reference, `withItems`, `withParam`, `withSequence`).
-- The order of faults and the limits are this project's own.
use Rattle.std.specs.Prelude.{List, [], ◌∷◌, length, Bool, true, false, ◌&&◌, nat_le, Option, Some, None, Ok, Err, if◌then◌else◌, ℕ, ℤ, map}
use Rattle.std.specs.List.{list_all}
use Rattle.serde_json.specs.Data.{float, Data, null, boolean, number, string, array, object, Items, no_items, item, Members, no_members, member}
use Rattle.serde_json.specs.Read.{read}
use Rattle.base_types.specs.Limits.{most_items}
use Rattle.tree_types.specs.declared.node.Note.TheVariants.{NotList, BadItem, TooManyItems}
use Rattle.tag_text.specs.Parts.{parts_of}
use Rattle.wf_manifest.specs.declared.calls.Loop.{Loop}
use Rattle.wf_manifest.specs.declared.calls.Loop.TheVariants as each
use Rattle.scopes.specs.Substitution.{Found, ◌>>=◌, Scope, said, said_option}
use Rattle.fanout.specs.Sequences.{Format, written, sequence_texts}

-- the texts inside a value are substituted, in lists and maps too; keys are not
abbrev mutual
  pub said_in : Scope → Data → Found Data
  said_in scope (string t) = said scope (parts_of t) >>= λ v. Ok (string v)
  said_in scope (array ds) = said_in_items scope ds >>= λ es. Ok (array es)
  said_in scope (object ms) = said_in_members scope ms >>= λ es. Ok (object es)
  said_in scope null = Ok null
  said_in scope (boolean b) = Ok (boolean b)
  said_in scope (number n) = Ok (number n)

  pub said_in_items : Scope → Items → Found Items
  said_in_items scope no_items = Ok no_items
  said_in_items scope (item d ds) = said_in scope d >>= λ e. said_in_items scope ds >>= λ es. Ok (item e es)

  pub said_in_members : Scope → Members → Found Members
  said_in_members scope no_members = Ok no_members
  said_in_members scope (member k d ms) = said_in scope d >>= λ e. said_in_members scope ms >>= λ es. Ok (member k e es)

-- every number in a value is a whole number of 64 bits
abbrev mutual
  pub is_whole : Data → Bool
  is_whole (number (float x)) = false
  is_whole (array ds) = are_whole ds
  is_whole (object ms) = members_are_whole ms
  is_whole _ = true

  pub are_whole : Items → Bool
  are_whole no_items = true
  are_whole (item d ds) = is_whole d && are_whole ds

  pub members_are_whole : Members → Bool
  members_are_whole no_members = true
  members_are_whole (member k d ms) = is_whole d && members_are_whole ms

abbrev pub list_of : Items → List Data
list_of no_items = []
list_of (item d ds) = d ∷ list_of ds

abbrev pub few_items : List Data → Found (List Data)
few_items ds = if nat_le (length ds) most_items then Ok ds else Err TooManyItems

-- a list's items: first a bad one is a fault, then too many
abbrev pub checked_items : List Data → Found (List Data)
checked_items ds = if list_all is_whole ds then few_items ds else Err BadItem

abbrev pub items_of_data : Data → Found (List Data)
items_of_data (array ds) = checked_items (list_of ds)
items_of_data _ = Err NotList

abbrev pub items_of_read : Option Data → Found (List Data)
items_of_read None = Err NotList
items_of_read (Some d) = items_of_data d

-- a number of a sequence as an item
abbrev pub number_items : Format × List ℤ → List Data
number_items row = map (λ z. string (written row.0 z)) row.1

-- the items of a sequence whose texts are substituted
abbrev pub sequence_items : Option (List ℕ) → Option (List ℕ) → Option (List ℕ) → Option (List ℕ) → Found (List Data)
sequence_items count start end format = sequence_texts count start end format >>= λ row. Ok (number_items row)

-- the items of a loop; the first tag without a value is a fault before all others
abbrev pub items : Scope → Loop → Found (List Data)
items scope (each.Items d) = said_in scope d >>= items_of_data
items scope (each.Param t) = said scope t >>= λ v. items_of_read (read v)
items scope (each.Sequence count start end format) = do
  c ← said_option scope count
  s ← said_option scope start
  e ← said_option scope end
  f ← said_option scope format
  sequence_items c s e f
