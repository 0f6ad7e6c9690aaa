-- The values that are left decide.
use Rattle.std.proofs.Common.{◌≡◌, drop}
use Rattle.serde_json.specs.View.{items_view, members_view}
use Rattle.call_reader.specs.Tags.{good_items, good_members}
use Rattle.call_reader.proofs.texts.+texts.Given as goal

abbrev pub invariant-good_items-loop-item : goal.invariant-good_items-loop-item
invariant-good_items-loop-item l = record {
  counted : l.i ≡ l.item-index;
  told : good_items l.at l.i (items_view (drop l.item-index l.item-items)) ≡ good_items l.at 0 (items_view l.items.items);
}

abbrev pub invariant-good_members-loop-key : goal.invariant-good_members-loop-key
invariant-good_members-loop-key l = good_members l.at (members_view l.key-iterator) ≡ good_members l.at (members_view l.members.entries)
