-- The task and the ancestors of its parents so far; the parents stand before it in the order.
use Rattle.std.proofs.Common.{◌≡◌, length, take}
use Rattle.std.specs.Prelude.{flat_map}
use Rattle.dag_board.specs.Inside.Firsts.{add_first, firsts}
use Rattle.dag_board.specs.Inside.Befores.{place_in, up_to}
use Rattle.dag_board.proofs.board.Board.+add_up_to.Given as goal

abbrev pub decreases-add_up_to : goal.decreases-add_up_to
decreases-add_up_to l = place_in l.plan.now.order l.place

abbrev pub invariant-loop-j : goal.invariant-loop-j
invariant-loop-j l = record {
  room : l.found.room ≡ length l.plan.rows;
  list : l.found.list ≡ firsts (add_first l.fn.found.list l.place) (flat_map (up_to l.plan l.self) (take l.j l.row));
}
