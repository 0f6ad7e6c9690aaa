-- What is found so far is there with its ancestors.
use Rattle.std.proofs.Common.{ℕ, suc, List, [], get_or, sym, subst}
use Rattle.dag_board.specs.Inside.Befores.{place_in, IsClosed}
use Rattle.dag_board.proofs.Upwards.{closed_so_far, none_closed}
use Rattle.dag_board.proofs.board.Board.ancestors.Goals as goal

pub add_up_to-requires-clause-closed : goal.add_up_to-requires-clause-closed
add_up_to-requires-clause-closed c =
    let plan = c.args.plan.now in
    let b = c.args.self.now in
    let row = c.args.row.now in
    let k : ℕ = suc (place_in plan.order (get_or row c.loop-j.j 0)) in
    subst (λ (ps : List ℕ). IsClosed plan b k ps) (sym c.loop-j.invariant.list)
    (closed_so_far plan b c.requires.within c.requires.order k [] row c.loop-j.j c.requires.row (none_closed plan b k))
