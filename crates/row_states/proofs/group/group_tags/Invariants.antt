-- The tags of the last members.
use Rattle.std.proofs.Common.{◌≤◌, length, drop}
use Rattle.std.specs.Prelude.{zip}
use Rattle.scopes.specs.Values.{HasValuesOf}
use Rattle.meaning.specs.Steps.{group_tags}
use Rattle.row_states.proofs.group.group_tags.Given as goal

abbrev pub invariant-loop-left : goal.invariant-loop-left
invariant-loop-left l = record {
  called : l.left ≤ length l.calls;
  made : l.left ≤ length l.states;
  told : HasValuesOf l.tags (group_tags (drop l.left (zip l.calls l.states)));
}

abbrev pub decreases-loop-left : goal.decreases-loop-left
decreases-loop-left l = l.left
