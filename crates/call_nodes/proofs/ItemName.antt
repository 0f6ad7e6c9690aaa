-- An item's text in a name has no parentheses.
use Rattle.std.proofs.Common.{◌≡◌, ℕ, Bool, true, false, ◌&&◌, ◌||◌, cond, List, [], ◌∷◌, refl}
use Rattle.std.specs.Prelude.{◌==◌, not}
use Rattle.std.specs.List.{list_all, join_with_byte}
use Rattle.serde_json.specs.Data.{Data, null, boolean, number, string, array, object}
use Rattle.node_names.specs.Names.{is_no_parenthesis}
use Rattle.fanout.specs.ItemTexts.{item_text, name_text, pair_texts, without_parentheses}

without : (t : List ℕ) → list_all is_no_parenthesis (without_parentheses t) ≡ true
without [] = refl
without (b ∷ t) = go (not ((b == 40) || (b == 41))) refl (without t)
  where
    go : (c : Bool) → not ((b == 40) || (b == 41)) ≡ c → list_all is_no_parenthesis (without_parentheses t) ≡ true → list_all is_no_parenthesis (cond c (b ∷ without_parentheses t) (without_parentheses t)) ≡ true
    go true e r = λ i. e i && r i
    go false e r = r

pub item_name : (d : Data) → list_all is_no_parenthesis (name_text d) ≡ true
item_name null = without (item_text null)
item_name (boolean b) = without (item_text (boolean b))
item_name (number n) = without (item_text (number n))
item_name (string t) = without (item_text (string t))
item_name (array ds) = without (item_text (array ds))
item_name (object ms) = without (join_with_byte 44 (pair_texts ms))
