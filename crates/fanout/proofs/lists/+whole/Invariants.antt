use Rattle.std.proofs.Common.{◌≡◌, drop}
use Rattle.serde_json.specs.View.{items_view, members_view}
use Rattle.fanout.specs.Items.{are_whole, members_are_whole}
use Rattle.fanout.proofs.lists.+whole.Given as goal

abbrev pub invariant-has_whole_items-loop-value : goal.invariant-has_whole_items-loop-value
invariant-has_whole_items-loop-value l =
    are_whole (items_view l.fn.values.items) ≡ are_whole (items_view (drop l.value-index l.value-items))

abbrev pub invariant-has_whole_members-loop-value : goal.invariant-has_whole_members-loop-value
invariant-has_whole_members-loop-value l =
    members_are_whole (members_view l.members.entries) ≡ members_are_whole (members_view l.value-iterator)
