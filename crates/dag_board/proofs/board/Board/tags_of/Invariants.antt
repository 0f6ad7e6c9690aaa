-- The tags of the last ones.
use Rattle.std.proofs.Common.{◌≤◌, length, drop}
use Rattle.scopes.specs.Values.{HasValuesOf}
use Rattle.dag_board.specs.Inside.Befores.{board_tags}
use Rattle.dag_board.proofs.board.Board.tags_of.Given as goal

abbrev pub invariant-loop-left : goal.invariant-loop-left
invariant-loop-left l = record {
  within : l.left ≤ length l.places;
  tags : HasValuesOf l.tags (board_tags l.dag.tasks l.self (drop l.left l.places));
}

abbrev pub decreases-loop-left : goal.decreases-loop-left
decreases-loop-left l = l.left
