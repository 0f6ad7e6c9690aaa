-- The places so far, and those of the values that are left.
use Rattle.std.proofs.Common.{◌≡◌, ◌++◌, drop}
use Rattle.serde_json.specs.View.{items_view, members_view}
use Rattle.wf_places.specs.Calls.{items_places, members_places}
use Rattle.wf_places.specs.Inside.Views.{around_of}
use Rattle.wf_places.proofs.loops.+data.Given as goal

abbrev pub invariant-add_items-loop-item : goal.invariant-add_items-loop-item
invariant-add_items-loop-item l = record {
  counted : l.i ≡ l.item-index;
  told : l.out.items ++ items_places (around_of l.inside l.spot) l.at l.i (items_view (drop l.item-index l.item-items)) ≡ l.initial.out.items ++ items_places (around_of l.inside l.spot) l.at 0 (items_view l.items.items);
}

abbrev pub invariant-add_members-loop-key : goal.invariant-add_members-loop-key
invariant-add_members-loop-key l = l.out.items ++ members_places (around_of l.inside l.spot) l.at (members_view l.key-iterator) ≡ l.initial.out.items ++ members_places (around_of l.inside l.spot) l.at (members_view l.members.entries)
