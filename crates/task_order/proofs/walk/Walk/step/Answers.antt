use Rattle.std.proofs.Common.{◌≡◌, ◌<◌, length, sym, ◌∙◌, true, false, arith}
use Rattle.task_order.proofs.Goings.{goes_finished, goes_begun, meets_circle}
use Rattle.task_order.proofs.walk.Walk.step.Goals as goal

pub returns-then-next-row : goal.returns-then-next-row
returns-then-next-row c =
    let len : c.len.result ≡ length c.args.self.now.trail.items = omega arith in
    goes_finished c.args.waits.now c.args.self.now c.finish.new.self c.len.result c.index-place.result.now c.index.result.now c.first_left-next.result c.as_slice-row.result.now c.index-waits-place.result c.as_slice.result.now
    c.requires.sound c.requires.some len c.index-place.ensures c.index-waits-place.is c.as_slice-row.ensures c.index.ensures c.as_slice.ensures.value c.first_left-next.ensures.high c.first_left-next.ensures.passed
    c.if-next-row.true c.in_ok-finish.ensures.stages c.in_ok-finish.ensures.passed c.in_ok-finish.ensures.order c.in_ok-finish.ensures.trail

pub returns-in_ok-begin : goal.returns-in_ok-begin
returns-in_ok-begin c =
    let len : c.len.result ≡ length c.args.self.now.trail.items = omega arith in
    let left : c.first_left-next.result < length c.as_slice-row.result.now = omega (arith, c.first_left-next.ensures.high) in
    goes_begun c.args.waits.now c.args.self.now c.begin.new.self c.len.result c.index-place.result.now c.index.result.now c.first_left-next.result c.as_slice-row.result.now c.index-waits-place.result c.as_slice.result.now
    c.requires.sound c.requires.some len c.index-place.ensures c.index-waits-place.is c.as_slice-row.ensures c.index.ensures c.as_slice.ensures.value c.first_left-next.ensures.high c.first_left-next.ensures.passed
    c.index-2.result.now left c.index-2.ensures
    c.requires.within (c.is_new.ensures.0 c.if-is_new.true) c.in_ok-begin.ensures.stages c.in_ok-begin.ensures.passed c.in_ok-begin.ensures.order c.in_ok-begin.ensures.trail

pub returns-else-is_new : goal.returns-else-is_new
returns-else-is_new c =
    let len : c.len.result ≡ length c.args.self.now.trail.items = omega arith in
    let left : c.first_left-next.result < length c.as_slice-row.result.now = omega (arith, c.first_left-next.ensures.high) in
    meets_circle c.args.waits.now c.args.self.now c.args.self.now c.len.result c.index-place.result.now c.index.result.now c.first_left-next.result c.as_slice-row.result.now c.index-waits-place.result c.as_slice.result.now
    c.requires.sound c.requires.some len c.index-place.ensures c.index-waits-place.is c.as_slice-row.ensures c.index.ensures c.as_slice.ensures.value c.first_left-next.ensures.high c.first_left-next.ensures.passed
    c.index-2.result.now left c.index-2.ensures
    c.requires.within (λ is. absurd (let both : false ≡ true = sym c.if-is_new.false ∙ c.is_new.ensures.1 is in cc)) (c.first_left-next.ensures.left left)
