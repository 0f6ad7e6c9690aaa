-- One turn of the loop over items.
use Rattle.std.proofs.Common.{◌≡◌, ℕ, suc, ◌<◌, List, ◌∷◌, ◌++◌, length, get_or, drop, ap, sym, append_assoc, drop-cons, ◌∙◌}
use Rattle.item_reader.specs.declared.items.Item.{Item}
use Rattle.bundle_rules.specs.declared.asked.Asked.{Asked}
use Rattle.bundle_rules.specs.Names.{made_in, item_asked, items_asked}

pub items_more :
    (xs : List Item) (i : ℕ) (x : Item) → i < length xs → x ≡ get_or xs i x → (all names more : List (List ℕ)) →
    (before after whole : List Asked) → after ≡ before ++ item_asked all names i x → more ≡ names ++ made_in x →
    before ++ items_asked all names i (drop i xs) ≡ whole →
    after ++ items_asked all more (suc i) (drop (suc i) xs) ≡ whole
items_more xs i x lt is all names more before after whole e n old =
    let split : drop i xs ≡ x ∷ drop (suc i) xs = drop-cons xs i x lt ∙ ap (λ (y : Item). y ∷ drop (suc i) xs) (sym is) in
    ap (λ (ps : List Asked). ps ++ items_asked all more (suc i) (drop (suc i) xs)) e
    ∙ append_assoc before (item_asked all names i x) (items_asked all more (suc i) (drop (suc i) xs))
    ∙ ap (λ (ns : List (List ℕ)). before ++ (item_asked all names i x ++ items_asked all ns (suc i) (drop (suc i) xs))) n
    ∙ sym (ap (λ (ys : List Item). before ++ items_asked all names i ys) split) ∙ old
