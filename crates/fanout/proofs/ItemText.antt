-- What an item says in texts.
use Rattle.std.proofs.Common.{◌≡◌, true, false, List, ℕ, Some, None, refl}
use Rattle.std.proofs.lemmas.Bool.{and_parts, or_from}
use Rattle.serde_json.specs.Data.{unsigned, negative, float, Data, null, boolean, number, string, array, object, Items, no_items, item, Members, no_members, member}
use Rattle.serde_json.specs.Find.{as_str}
use Rattle.serde_json.specs.Written.{has_float, items_have_float, members_have_float, compact_text}
use Rattle.fanout.specs.Items.{is_whole, are_whole, members_are_whole}
use Rattle.fanout.specs.ItemTexts.{item_text}

pub item_text-as_str : (d : Data) (t : List ℕ) → as_str d ≡ Some t → item_text d ≡ t
item_text-as_str null t e = cc
item_text-as_str (boolean b) t e = cc
item_text-as_str (number n) t e = cc
item_text-as_str (string s) t e = cc
item_text-as_str (array ds) t e = cc
item_text-as_str (object ms) t e = cc

pub item_text-other : (d : Data) → as_str d ≡ None → item_text d ≡ compact_text d
item_text-other null e = refl
item_text-other (boolean b) e = refl
item_text-other (number n) e = refl
item_text-other (string s) e = cc
item_text-other (array ds) e = refl
item_text-other (object ms) e = refl

-- a value with whole numbers alone has no float
mutual
  pub has_float-is_whole : (d : Data) → is_whole d ≡ true → has_float d ≡ false
  has_float-is_whole null e = refl
  has_float-is_whole (boolean b) e = refl
  has_float-is_whole (number (unsigned n)) e = refl
  has_float-is_whole (number (negative z)) e = refl
  has_float-is_whole (number (float x)) e = cc
  has_float-is_whole (string s) e = refl
  has_float-is_whole (array ds) e = items_have_float-are_whole ds e
  has_float-is_whole (object ms) e = members_have_float-are_whole ms e

  pub items_have_float-are_whole : (ds : Items) → are_whole ds ≡ true → items_have_float ds ≡ false
  items_have_float-are_whole no_items e = refl
  items_have_float-are_whole (item d ds) e =
      let parts = and_parts (is_whole d) (are_whole ds) e in
      or_from (has_float d) (items_have_float ds) (has_float-is_whole d parts.0) (items_have_float-are_whole ds parts.1)

  pub members_have_float-are_whole : (ms : Members) → members_are_whole ms ≡ true → members_have_float ms ≡ false
  members_have_float-are_whole no_members e = refl
  members_have_float-are_whole (member k d ms) e =
      let parts = and_parts (is_whole d) (members_are_whole ms) e in
      or_from (has_float d) (members_have_float ms) (has_float-is_whole d parts.0) (members_have_float-are_whole ms parts.1)
