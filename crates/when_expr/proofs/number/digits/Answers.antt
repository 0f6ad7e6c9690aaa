use Rattle.std.proofs.Common.{◌<◌, arith, refl, slice_index_or, length}
use Rattle.when_expr.proofs.Digits.{grown_too_large}
use Rattle.when_expr.proofs.number.digits.Goals as goal

pub returns-then-value : goal.returns-then-value
returns-then-value c =
    let inside : c.loop-i.i < length c.args.text.now = omega arith in
    let large : 922337203685477580 < c.loop-i.value = omega arith in
    grown_too_large c.args.text.now c.loop-i.i c.loop-i.value (slice_index_or c.args.text.now c.loop-i.i 0) inside refl large c.loop-i.invariant
