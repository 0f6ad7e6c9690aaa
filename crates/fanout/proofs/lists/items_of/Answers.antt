use Rattle.std.proofs.Common.{◌≡◌, true, false, arith, sym, ◌∙◌, ap, Ok}
use Rattle.serde_json.specs.View.{items_view}
use Rattle.fanout.specs.Items.{are_whole, items_of_data}
use Rattle.fanout.proofs.IsWhole.{bad_items, many_items, good_items}
use Rattle.serde_json.specs.View.{view}
use Rattle.fanout.proofs.lists.items_of.Goals as goal

pub returns-then-not-has_whole_items : goal.returns-then-not-has_whole_items
returns-then-not-has_whole_items c =
    let values = c.in-Array.values in
    let bad : are_whole (items_view values.items) ≡ false = cc (c.has_whole_items.ensures, c.if-not-has_whole_items.true) in
    ap (λ v. items_of_data (view v)) c.in-Array.is ∙ bad_items values bad

pub returns-then-len-gt-MOST_ITEMS : goal.returns-then-len-gt-MOST_ITEMS
returns-then-len-gt-MOST_ITEMS c =
    let values = c.in-Array.values in
    let good : are_whole (items_view values.items) ≡ true = cc (c.has_whole_items.ensures, c.if-not-has_whole_items.false) in
    ap (λ v. items_of_data (view v)) c.in-Array.is ∙ many_items values good (grind (arith, c.len.ensures))

pub returns : goal.returns
returns c =
    let values = c.in-Array.values in
    let good : are_whole (items_view values.items) ≡ true = cc (c.has_whole_items.ensures, c.if-not-has_whole_items.false) in
    ap (λ v. items_of_data (view v)) c.in-Array.is ∙ good_items values good (grind (arith, c.len.ensures)) ∙ ap Ok (sym c.in_ok-wrapped.ensures)
