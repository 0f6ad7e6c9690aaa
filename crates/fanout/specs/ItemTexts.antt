-- What an item says in texts and in names of nodes.
use Rattle.std.specs.Prelude.{ℕ, List, [], ◌∷◌, ◌++◌, not, ◌||◌, ◌==◌, codes, filter}
use Rattle.std.specs.List.{join_with_byte}
use Rattle.serde_json.specs.Data.{Data, string, object, Members, no_members, member}
use Rattle.serde_json.specs.Written.{compact_text}
use Rattle.scopes.specs.Substitution.{Scope}

-- what `{{item}}` says: a text itself, all else as compact JSON (Argo, "Loops")
abbrev pub item_text : Data → List ℕ
item_text (string t) = t
item_text d = compact_text d

-- the tags of a map's members
abbrev pub member_tags : Members → Scope
member_tags no_members = []
member_tags (member k d ms) = (codes "item." ++ k, item_text d) ∷ member_tags ms

-- the tags of an item: `item`, and `item.k` for each member of a map
abbrev pub item_tags : Data → Scope
item_tags (object ms) = (codes "item", item_text (object ms)) ∷ member_tags ms
item_tags d = (codes "item", item_text d) ∷ []

-- ---- the item text in a node's name

abbrev pub without_parentheses : List ℕ → List ℕ
without_parentheses t = filter (λ b. not ((b == 40) || (b == 41))) t

-- `k:v` of each member
abbrev pub pair_texts : Members → List (List ℕ)
pair_texts no_members = []
pair_texts (member k d ms) = (k ++ codes ":" ++ item_text d) ∷ pair_texts ms

-- own: an item's text without parentheses; a map is written `k:v` with commas between
abbrev pub name_text : Data → List ℕ
name_text (object ms) = without_parentheses (join_with_byte 44 (pair_texts ms))
name_text d = without_parentheses (item_text d)
