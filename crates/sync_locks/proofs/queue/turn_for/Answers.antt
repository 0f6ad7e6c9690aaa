-- The half that does not have the turn is left out.
use Rattle.std.proofs.Common.{◌≡◌, ◌+◌, ◌-◌, ◌/◌, Some, not, sym, ap, ◌∙◌, arith}
use Rattle.std.specs.Prelude.{slice_get}
use Rattle.sync_locks.specs.Inside.Queues.{overtakes}
use Rattle.sync_locks.proofs.Sought.{passing, failing}
use Rattle.sync_locks.proofs.queue.turn_for.Goals as goal

pub loop-low-preserved-then-overtakes : goal.loop-low-preserved-then-overtakes
loop-low-preserved-then-overtakes c =
    let middle = c.loop-low.low + (c.loop-low.high - c.loop-low.low) / 2 in
    let at : slice_get c.args.waiting.now middle ≡ Some c.unwrap-place.result = sym c.get.ensures ∙ c.unwrap-place.ensures in record {
      order = omega arith;
      within = omega (arith, c.loop-low-test.true, c.loop-low.invariant.within);
      behind = c.loop-low.invariant.behind;
      before = λ parted. failing (λ p. not (overtakes c.args.rank.now c.args.asked.now p)) c.args.waiting.now middle c.unwrap-place.result at parted (ap not (sym c.overtakes.ensures ∙ c.if-overtakes.true));
    }

pub loop-low-preserved : goal.loop-low-preserved
loop-low-preserved c =
    let middle = c.loop-low.low + (c.loop-low.high - c.loop-low.low) / 2 in
    let at : slice_get c.args.waiting.now middle ≡ Some c.unwrap-place.result = sym c.get.ensures ∙ c.unwrap-place.ensures in record {
      order = omega (arith, c.loop-low-test.true);
      within = c.loop-low.invariant.within;
      behind = λ parted. passing (λ p. not (overtakes c.args.rank.now c.args.asked.now p)) c.args.waiting.now middle c.unwrap-place.result at parted (ap not (sym c.overtakes.ensures ∙ c.if-overtakes.false));
      before = c.loop-low.invariant.before;
    }
