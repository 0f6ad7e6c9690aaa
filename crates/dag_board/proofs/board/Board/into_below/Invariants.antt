-- What is made so far, and what stands for the tasks that are left.
use Rattle.std.proofs.Common.{◌≡◌, ◌≤◌, ℕ, length, drop}
use Rattle.meaning.specs.Lines.{then_parts}
use Rattle.dag_board.specs.Boards.{state_at}
use Rattle.dag_board.specs.Inside.Parts.{parts_from}
use Rattle.dag_board.proofs.board.Board.into_below.Given as goal

abbrev pub invariant-loop-i : goal.invariant-loop-i
invariant-loop-i l = record {
  long : length l.self.states.items ≡ length l.dag.tasks;
  stands : l.self.stands.items ≡ l.fn.self.stands.items;
  left : (p : ℕ) → l.i ≤ p → state_at l.self p ≡ state_at l.fn.self p;
  below :
      then_parts l.below (parts_from l.doomed l.place l.fn.self l.i (drop l.i l.dag.tasks))
      ≡ parts_from l.doomed l.place l.fn.self 0 l.dag.tasks;
}
