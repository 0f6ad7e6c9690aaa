use Rattle.std.proofs.Common.{◌≡◌, [], true}
use Rattle.serde_json.specs.View.{members_view}
use Rattle.fanout.specs.Items.{members_are_whole}
use Rattle.fanout.proofs.NameText.{with_pairs}
use Rattle.fanout.proofs.texts.pairs_text.Given as goal

abbrev pub invariant-loop-key : goal.invariant-loop-key
invariant-loop-key l = record {
  said : with_pairs l.pairs (members_view l.key-iterator) ≡ with_pairs [] (members_view l.members.entries);
  whole : members_are_whole (members_view l.key-iterator) ≡ true;
}
