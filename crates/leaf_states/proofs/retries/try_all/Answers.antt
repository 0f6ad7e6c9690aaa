-- Another attempt stands behind those so far, or there is no room for it.
use Rattle.std.proofs.Common.{List, ◌+◌, ◌≡◌, sym, subst}
use Rattle.meaning.specs.Lines.{Made, row_of}
use Rattle.meaning.specs.Pods.{attempts}
use Rattle.tree_state.specs.Counting.{count_below}
use Rattle.leaf_states.specs.declared.retries.Follow.{Follow}
use Rattle.leaf_states.specs.Inside.Attempts.{AreFirst, AreSoFar, followed}
use Rattle.leaf_states.proofs.Tries.{so_far, fails, taken_more}
use Rattle.leaf_states.proofs.retries.try_all.Goals as goal

pub returns-in_err-next : goal.returns-in_err-next
returns-in_err-next g c =
    let A = g.R.Recorded.answers c.args.recorded.now in
    let place = c.args.place.now in
    let ds = c.args.declared.now in
    let r = c.args.retry.now in
    let ms = c.loop-follow.all in
    let k = c.len-k.result in
    let meant = attempts A place ds r in
    let firsts : AreFirst A place ds r ms c.in-Starts.first meant = subst (λ (f : Follow). AreSoFar A place ds r ms f meant) c.in-Starts.is c.loop-follow.invariant.stand in
    fails A place ds r ms c.in-Starts.first k c.loop-follow.room c.args.room.now c.attempt.new.room (followed A place ds r k (k + 1) c.in-Starts.first) meant c.from_residual.result c.in_err-next.field-0.0 firsts c.len-k.ensures c.loop-follow.invariant.taken c.in_err-next.ensures c.from_residual.ensures.1

pub loop-follow-preserved : goal.loop-follow-preserved
loop-follow-preserved g c =
    let A = g.R.Recorded.answers c.args.recorded.now in
    let place = c.args.place.now in
    let ds = c.args.declared.now in
    let r = c.args.retry.now in
    let ms = c.loop-follow.all in
    let k = c.len-k.result in
    let next = c.in_ok-next.next in
    let e = c.in_ok-next.ensures in
    let meant = attempts A place ds r in
    let firsts : AreFirst A place ds r ms c.in-Starts.first meant = subst (λ (f : Follow). AreSoFar A place ds r ms f meant) c.in-Starts.is c.loop-follow.invariant.stand in
    let stand = so_far A place ds r ms c.in-Starts.first k next.state next.follow meant firsts c.len-k.ensures e.0 e.1 in
    let taken = taken_more A place ds r ms next.state k c.loop-follow.room c.args.room.now c.attempt.new.room e.0 c.loop-follow.invariant.taken e.2 in
    let pushed = sym c.in_ok-push.ensures.ok in
    record {
      stand = subst (λ (xs : List Made). AreSoFar A place ds r xs next.follow meant) pushed stand;
      taken = subst (λ (xs : List Made). c.attempt.new.room + count_below (row_of xs) ≡ c.args.room.now) pushed taken;
    }
