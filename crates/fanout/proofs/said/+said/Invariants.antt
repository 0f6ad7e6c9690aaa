use Rattle.std.proofs.Common.{◌≡◌, List, ◌++◌, take, Ok}
use Rattle.serde_json.specs.View.{items_view, members_view}
use Rattle.serde_json.proofs.Views.{Entry}
use Rattle.fanout.specs.Items.{said_in_items, said_in_members}
use Rattle.fanout.proofs.said.+said.Given as goal

abbrev pub invariant-said_values-loop-value : goal.invariant-said_values-loop-value
invariant-said_values-loop-value l =
    said_in_items l.scope (items_view (take l.value-index l.value-items)) ≡ Ok (items_view l.said.items)

abbrev pub invariant-said_members-loop-key : goal.invariant-said_members-loop-key
invariant-said_members-loop-key l =
    (done : List Entry) × (l.members.entries ≡ done ++ l.key-iterator)
    × (said_in_members l.scope (members_view done) ≡ Ok (members_view l.said.entries))
