-- The values that are left decide.
use Rattle.std.proofs.Common.{◌≡◌, drop}
use Rattle.serde_json.specs.View.{items_view, members_view}
use Rattle.mentions.specs.Mentions as meant
use Rattle.mentions.proofs.values.+asks.Given as goal

abbrev pub invariant-values_ask-loop-value : goal.invariant-values_ask-loop-value
invariant-values_ask-loop-value l =
    meant.values_ask l.prefix (items_view (drop l.value-index l.value-items)) ≡ meant.values_ask l.prefix (items_view l.values.items)

abbrev pub invariant-members_ask-loop-value : goal.invariant-members_ask-loop-value
invariant-members_ask-loop-value l =
    meant.members_ask l.prefix (members_view l.value-iterator) ≡ meant.members_ask l.prefix (members_view l.members.entries)
