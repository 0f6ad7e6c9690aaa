-- A ready task is shown.
use Rattle.std.proofs.Common.{None, subst}
use Rattle.dag_template.specs.declared.stands.Stand.{Stand}
use Rattle.dag_board.specs.Inside.Puts.{IsPut}
use Rattle.dag_board.proofs.Writing.{ready_is_shown}
use Rattle.dag_board.proofs.board.Board.set_ready.Goals as goal

pub returns : goal.returns
returns c =
    let old = c.args.self.now in
    let new = c.put.new.self in
    let i = c.args.i in
    ready_is_shown c.args.dag.now c.args.plan.now old new i
    (subst (λ (s : Stand). IsPut old new i s None) c.stand_ready.ensures c.put.ensures)
