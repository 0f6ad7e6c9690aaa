-- The tasks so far and their ancestors.
use Rattle.std.proofs.Common.{◌≡◌, length, take}
use Rattle.dag_board.specs.Inside.Befores.{ancestors}
use Rattle.dag_board.proofs.board.Board.ancestors.Given as goal

abbrev pub invariant-loop-j : goal.invariant-loop-j
invariant-loop-j l = record {
  room : l.found.room ≡ length l.plan.rows;
  list : l.found.list ≡ ancestors l.plan l.self (take l.j l.row);
}
