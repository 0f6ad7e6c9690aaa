-- Calls that are shared, one after the other.
use Rattle.std.proofs.Common.{[], ◌∷◌, ◌++◌, take, ◌∙◌, arith}
use Rattle.tree_walk.specs.Walking.{GivesRow}
use Rattle.tree_walk.proofs.Rooms.{by_err}
use Rattle.tree_change.proofs.Sharing.{row_fails_at, take_next, room_next}
use Rattle.tree_change.proofs.share.shared_first.Goals as goal

pub returns-in_err-shared : goal.returns-in_err-shared
returns-in_err-shared c =
    by_err (λ r. GivesRow c.args.room.now c.shared.new.room r (take c.args.count c.args.old.now)) c.from_residual.result c.in_err-shared.field-0.0 c.from_residual.ensures.1
    (row_fails_at c.args.old.now c.args.count c.loop-i.i c.get.result.now c.get.ensures (omega arith) c.args.room.now c.loop-i.room c.shared.new.room c.in_err-shared.field-0.0 c.loop-i.invariant.room c.in_err-shared.ensures)

pub loop-i-preserved : goal.loop-i-preserved
loop-i-preserved c =
    let given = c.in_ok-shared.ensures in
    let next = take_next c.args.old.now c.loop-i.i c.get.result.now c.get.ensures in
    record {
      shared = c.in_ok-push.ensures.ok ∙ (λ k. c.loop-i.invariant.shared k ++ given.0 k ∷ []) ∙ next;
      room = room_next c.args.old.now c.loop-i.i c.get.result.now c.get.ensures c.args.room.now c.loop-i.room c.shared.new.room c.loop-i.invariant.room given.1;
    }
