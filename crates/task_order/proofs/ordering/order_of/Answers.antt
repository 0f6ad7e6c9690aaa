use Rattle.std.proofs.Common.{arith}
use Rattle.task_order.proofs.Walks.{order_made}
use Rattle.task_order.proofs.Orders.{begun_sound, new_read}
use Rattle.task_order.proofs.ordering.order_of.Goals as goal

pub run-requires-clause-sound : goal.run-requires-clause-sound
run-requires-clause-sound c =
    begun_sound c.args.waits.now c.loop-place.walk c.begin.new.self c.loop-place.place c.loop-place.invariant.sound c.loop-place.invariant.trail c.loop-place-test.true
    (new_read c.loop-place.walk.stages.items c.loop-place.place c.index.result.now c.index.ensures (c.is_new.ensures.0 c.if-is_new.true))
    c.in_ok-begin.ensures.stages c.in_ok-begin.ensures.passed c.in_ok-begin.ensures.order c.in_ok-begin.ensures.trail

pub returns-clause-some : goal.returns-clause-some
returns-clause-some c =
    order_made c.args.waits.now c.loop-place.walk.stages.items c.loop-place.walk.passed.items c.loop-place.walk.order.items c.loop-place.walk.trail.items c.loop-place.invariant.sound c.loop-place.invariant.trail
    (λ v below. c.loop-place.invariant.met v (let past = c.loop-place-test.false in omega (arith, below, past)))
