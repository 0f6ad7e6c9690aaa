-- The tags of the last tasks.
use Rattle.std.proofs.Common.{◌≤◌, length, drop}
use Rattle.scopes.specs.Values.{HasValuesOf}
use Rattle.dag_board.specs.Inside.Parts.{tags_from}
use Rattle.dag_board.proofs.board.Board.all_tags.Given as goal

abbrev pub invariant-loop-left : goal.invariant-loop-left
invariant-loop-left l = record {
  within : l.left ≤ length l.dag.tasks;
  tags : HasValuesOf l.tags (tags_from l.self l.left (drop l.left l.dag.tasks));
}

abbrev pub decreases-loop-left : goal.decreases-loop-left
decreases-loop-left l = l.left
