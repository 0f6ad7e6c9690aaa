use Rattle.std.proofs.Common.{◌≡◌, true}
use Rattle.serde_json.specs.View.{members_view}
use Rattle.std.specs.List.Sorted.{IsStrictlySortedBy}
use Rattle.std.specs.Map.{keys_of}
use Rattle.std.specs.String.{string_cmp}
use Rattle.scopes.specs.Values.{HasValuesOf, HasValuesOfEither}
use Rattle.fanout.specs.Items.{members_are_whole}
use Rattle.fanout.proofs.ItemTags.{with_members}
use Rattle.fanout.proofs.tags.add_members.Given as goal

abbrev pub invariant-loop-key : goal.invariant-loop-key
invariant-loop-key l = record {
  given : HasValuesOf (with_members l.tags (members_view l.key-iterator)) (with_members l.fn.tags (members_view l.members.entries));
  sorted : IsStrictlySortedBy string_cmp (keys_of l.key-iterator);
  between : HasValuesOfEither l.tags l.fn.tags (with_members l.fn.tags (members_view l.members.entries));
  whole : members_are_whole (members_view l.key-iterator) ≡ true;
}
