-- The code of JSON data, by which contracts tell two values apart.
use Rattle.std.specs.Prelude.{◌≡◌, zero, suc, Bool, true, false, ℤ, pos, negsuc, refl, Float}
use Rattle.std.proofs.Common.{ap}
use base.Stored.{Gv, gnil, gnum, gcons, Coded}
use lib.Ieee.{nan, inf, fin}
use Rattle.serde_json.specs.Data.{Num, unsigned, negative, float, Data, null, boolean, number, string, array, object, Items, no_items, item, Members, no_members, member}
use Rattle.base_types.specs.Coding.{coded_by_tree, bytes_tree, tree_bytes, bytes_back}

abbrev pub sign : Bool → Gv
sign true = gnum 1
sign false = gnum 0

abbrev pub unsign : Gv → Bool
unsign (gnum zero) = false
unsign _ = true

abbrev pub whole_tree : ℤ → Gv
whole_tree (pos n) = gcons gnil (gnum n)
whole_tree (negsuc n) = gnum n

abbrev pub tree_whole : Gv → ℤ
tree_whole (gcons _ (gnum n)) = pos n
tree_whole (gnum n) = negsuc n
tree_whole _ = pos 0

abbrev pub float_tree : Float → Gv
float_tree nan = gnil
float_tree (inf true) = gnum 1
float_tree (inf false) = gnum 0
float_tree (fin true m e) = gcons (gnum 1) (gcons (gnum m) (whole_tree e))
float_tree (fin false m e) = gcons (gnum 0) (gcons (gnum m) (whole_tree e))

abbrev pub tree_float : Gv → Float
tree_float (gnum n) = inf (unsign (gnum n))
tree_float (gcons s (gcons (gnum m) e)) = fin (unsign s) m (tree_whole e)
tree_float _ = nan

whole_back : (z : ℤ) → tree_whole (whole_tree z) ≡ z
whole_back (pos n) = refl
whole_back (negsuc n) = refl

float_back : (x : Float) → tree_float (float_tree x) ≡ x
float_back nan = refl
float_back (inf true) = refl
float_back (inf false) = refl
float_back (fin true m e) = ap (fin true m) (whole_back e)
float_back (fin false m e) = ap (fin false m) (whole_back e)

abbrev pub num_tree : Num → Gv
num_tree (unsigned n) = gcons (gnum 0) (gnum n)
num_tree (negative (pos n)) = gcons (gnum 1) (gnum n)
num_tree (negative (negsuc n)) = gcons (gnum 2) (gnum n)
num_tree (float x) = gcons (gnum 3) (float_tree x)

abbrev pub tree_num : Gv → Num
tree_num (gcons (gnum zero) (gnum n)) = unsigned n
tree_num (gcons (gnum (suc zero)) (gnum n)) = negative (pos n)
tree_num (gcons (gnum (suc (suc zero))) (gnum n)) = negative (negsuc n)
tree_num (gcons _ g) = float (tree_float g)
tree_num _ = unsigned 0

num_back : (n : Num) → tree_num (num_tree n) ≡ n
num_back (unsigned n) = refl
num_back (negative (pos n)) = refl
num_back (negative (negsuc n)) = refl
num_back (float x) = ap float (float_back x)

abbrev mutual
  pub data_tree : Data → Gv
  data_tree null = gnil
  data_tree (boolean true) = gnum 1
  data_tree (boolean false) = gnum 0
  data_tree (number n) = gcons (gnum 0) (num_tree n)
  data_tree (string s) = gcons (gnum 1) (bytes_tree s)
  data_tree (array ds) = gcons (gnum 2) (items_tree ds)
  data_tree (object ms) = gcons (gnum 3) (members_tree ms)

  pub items_tree : Items → Gv
  items_tree no_items = gnil
  items_tree (item d ds) = gcons (data_tree d) (items_tree ds)

  pub members_tree : Members → Gv
  members_tree no_members = gnil
  members_tree (member k d ms) = gcons (gcons (bytes_tree k) (data_tree d)) (members_tree ms)

abbrev mutual
  pub tree_data : Gv → Data
  tree_data gnil = null
  tree_data (gnum zero) = boolean false
  tree_data (gnum _) = boolean true
  tree_data (gcons (gnum zero) g) = number (tree_num g)
  tree_data (gcons (gnum (suc zero)) g) = string (tree_bytes g)
  tree_data (gcons (gnum (suc (suc zero))) g) = array (tree_items g)
  tree_data (gcons _ g) = object (tree_members g)

  pub tree_items : Gv → Items
  tree_items (gcons d g) = item (tree_data d) (tree_items g)
  tree_items _ = no_items

  pub tree_members : Gv → Members
  tree_members (gcons (gcons k d) g) = member (tree_bytes k) (tree_data d) (tree_members g)
  tree_members _ = no_members

mutual
  pub data_back : (d : Data) → tree_data (data_tree d) ≡ d
  data_back null = refl
  data_back (boolean true) = refl
  data_back (boolean false) = refl
  data_back (number n) = ap number (num_back n)
  data_back (string s) = ap string (bytes_back s)
  data_back (array ds) = ap array (items_back ds)
  data_back (object ms) = ap object (members_back ms)

  pub items_back : (ds : Items) → tree_items (items_tree ds) ≡ ds
  items_back no_items = refl
  items_back (item d ds) = λ i. item (data_back d i) (items_back ds i)

  pub members_back : (ms : Members) → tree_members (members_tree ms) ≡ ms
  members_back no_members = refl
  members_back (member k d ms) = λ i. member (bytes_back k i) (data_back d i) (members_back ms i)

abbrev pub json_code : Coded Data
json_code = coded_by_tree data_tree tree_data data_back
