-- Whether the values of a list have whole numbers, value by value, and that the items of a sequence have.
use Rattle.std.proofs.Common.{◌≡◌, ℕ, ◌+◌, ◌<◌, true, false, ◌&&◌, List, [], ◌∷◌, length, get_or, drop, map, arith, refl, sym, ap, ◌∙◌, Option, Result, add-one, Vec, Global, Ok, Err, ◌≤◌}
use Rattle.std.proofs.lemmas.List.{length-map}
use Rattle.std.specs.Prelude.{nat_le, ℤ, IsTrue, IfOk}
use Rattle.std.specs.List.{list_all}
use Rattle.std.proofs.lemmas.Bool.{cond-true, cond-false, lt-leb, le-leb}
use Rattle.tree_types.specs.declared.node.Note.TheVariants as note
use Rattle.serde_json.specs.Data.{Data}
use Rattle.scopes.specs.Substitution.{Found, ◌>>=◌}
use Rattle.fanout.specs.Faults.{Tells}
use Rattle.fanout.specs.declared.refused.FanRefused.{FanRefused}
use Rattle.serde_json.proofs.Views.{view-Array}
use Rattle.serde_json.specs.View.{view, items_view, items_of}
use Rattle.serde_json.specs.declared.value.Value.{Value, Array}
use Rattle.fanout.specs.Items.{is_whole, are_whole, list_of, few_items, checked_items, items_of_data, number_items, sequence_items}
use Rattle.base_types.specs.Limits.{most_items}
use Rattle.fanout.specs.Sequences.{Format, sequence_texts}
use Rattle.std.proofs.Math.Seq.{drop-cons}

pub are_whole-drop : (vs : List Value) (i : ℕ) (d : Value) → i < length vs → are_whole (items_view (drop i vs)) ≡ (is_whole (view (get_or vs i d)) && are_whole (items_view (drop (i + 1) vs)))
are_whole-drop vs i d at = rw (add-one, drop-cons vs i d) refl

pub bad_item : (vs : List Value) (i : ℕ) (d : Value) → i < length vs → is_whole (view (get_or vs i d)) ≡ false → are_whole (items_view (drop i vs)) ≡ false
bad_item vs i d at bad = are_whole-drop vs i d at ∙ ap (λ b. b && are_whole (items_view (drop (i + 1) vs))) bad

pub good_item : (vs : List Value) (i : ℕ) (d : Value) → i < length vs → is_whole (view (get_or vs i d)) ≡ true → are_whole (items_view (drop i vs)) ≡ are_whole (items_view (drop (i + 1) vs))
good_item vs i d at good = are_whole-drop vs i d at ∙ ap (λ b. b && are_whole (items_view (drop (i + 1) vs))) good

-- ---- a JSON list's items

list_of-items_of : (ds : List Data) → list_of (items_of ds) ≡ ds
list_of-items_of [] = refl
list_of-items_of (d ∷ ds) = ap (λ x. d ∷ x) (list_of-items_of ds)

list_all-are_whole : (ds : List Data) → list_all is_whole ds ≡ are_whole (items_of ds)
list_all-are_whole [] = refl
list_all-are_whole (d ∷ ds) = ap (λ b. is_whole d && b) (list_all-are_whole ds)

items_of_data-Array : (v : Vec Value Global) → items_of_data (view (Array v)) ≡ checked_items (map view v.items)
items_of_data-Array v = ap items_of_data (view-Array v) ∙ ap checked_items (list_of-items_of (map view v.items))

pub bad_items : (v : Vec Value Global) → are_whole (items_view v.items) ≡ false → items_of_data (view (Array v)) ≡ Err note.BadItem
bad_items v bad =
    items_of_data-Array v ∙ cond-false (list_all is_whole (map view v.items)) (few_items (map view v.items)) (Err note.BadItem) (list_all-are_whole (map view v.items) ∙ bad)

whole_items : (v : Vec Value Global) → are_whole (items_view v.items) ≡ true → items_of_data (view (Array v)) ≡ few_items (map view v.items)
whole_items v good =
    items_of_data-Array v ∙ cond-true (list_all is_whole (map view v.items)) (few_items (map view v.items)) (Err note.BadItem) (list_all-are_whole (map view v.items) ∙ good)

pub many_items : (v : Vec Value Global) → are_whole (items_view v.items) ≡ true → most_items < length v.items → items_of_data (view (Array v)) ≡ Err note.TooManyItems
many_items v good many =
    let long : most_items < length (map view v.items) = omega (arith, length-map {B = Data} v.items view) in
    whole_items v good ∙ cond-false (nat_le (length (map view v.items)) most_items) (Ok (map view v.items)) (Err note.TooManyItems) (lt-leb (length (map view v.items)) most_items long)

pub good_items : (v : Vec Value Global) → are_whole (items_view v.items) ≡ true → length v.items ≤ most_items → items_of_data (view (Array v)) ≡ Ok (map view v.items)
good_items v good few =
    let short : length (map view v.items) ≤ most_items = omega (arith, length-map {B = Data} v.items view) in
    whole_items v good ∙ cond-true (nat_le (length (map view v.items)) most_items) (Ok (map view v.items)) (Err note.TooManyItems) (le-leb (length (map view v.items)) most_items short)

-- ---- the items of a sequence have no number

abbrev pub Whole : List Data → Type 0
Whole ds = list_all is_whole ds ≡ true

numbers_whole : (f : Format) (zs : List ℤ) → Whole (number_items (f, zs))
numbers_whole f [] = refl
numbers_whole f (z ∷ zs) = numbers_whole f zs

then_whole : {A : Type 0} (m : Found A) (f : A → Found (List Data)) (es : List Data) → ((x : A) → f x ≡ Ok es → Whole es) → (m >>= f) ≡ Ok es → Whole es
then_whole (Ok x) f es h e = h x e
then_whole (Err n) f es h e = cc

abbrev Gives : Found (List Data) → List Data → Type 0
Gives found es = found ≡ Ok es

row_whole : (row : Format × List ℤ) (es : List Data) → Gives (Ok (number_items row)) es → Whole es
row_whole row es e = let same : number_items row ≡ es = cc in ap (λ xs. list_all is_whole xs) (sym same) ∙ numbers_whole row.0 row.1

told_whole : (meant : Found (List Data)) (r : Result (List Data) FanRefused) → ((es : List Data) → Gives meant es → Whole es) → Tells (λ es. es) r meant → IfOk r (λ es. IsTrue (list_all is_whole es))
told_whole meant (Ok es) h told = h es told
told_whole meant (Err fault) h told = tt

pub sequence_items_whole : (count start end format : Option (List ℕ)) (r : Result (List Data) FanRefused) → Tells (λ es. es) r (sequence_items count start end format) → IfOk r (λ es. IsTrue (list_all is_whole es))
sequence_items_whole count start end format r told =
    let texts = sequence_texts count start end format in
    told_whole (sequence_items count start end format) r (λ es e. then_whole texts (λ row. Ok (number_items row)) es (λ row. row_whole row es) e) told
