use Rattle.std.proofs.Common.{◌≡◌, ◌/◌, length, arith}
use Rattle.task_order.proofs.Bits.{has_either, all_words}
use Rattle.task_order.proofs.places.Places.add_all.Goals as goal

pub returns-clause-added : goal.returns-clause-added
returns-clause-added c =
    let xs = c.args.self.now.words.items in
    let ys = c.args.other.now.words.items in
    let zs = c.loop-i.self.words.items in
    let ys_long : length ys ≡ length xs = omega arith in
    let long = c.loop-i.invariant.long in
    let zs_long : length zs ≡ length xs = omega (arith, long) in
    λ p. has_either xs ys zs p (all_words xs ys zs c.loop-i.i (p / 64) ys_long zs_long (omega (arith, long)) c.loop-i.invariant.before)
