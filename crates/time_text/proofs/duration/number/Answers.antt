use Rattle.std.proofs.Common.{arith}
use Rattle.std.proofs.lemmas.Str.Parse.{digits_value-take-le}
use Rattle.time_text.proofs.IsNumber.{digits_value_next, digits_value-is_number}
use Rattle.time_text.proofs.duration.number.Goals as goal

pub overflow_mul-number : goal.overflow_mul-number
overflow_mul-number c = let next = digits_value_next c.args.digits.now c.loop-digit.digit-index c.requires c.loop-digit-test.true in grind (arith, next.0, next.1)

pub overflow_add-number : goal.overflow_add-number
overflow_add-number c = let next = digits_value_next c.args.digits.now c.loop-digit.digit-index c.requires c.loop-digit-test.true in grind (arith, next.0, next.1)

pub loop-digit-preserved : goal.loop-digit-preserved
loop-digit-preserved c = let next = digits_value_next c.args.digits.now c.loop-digit.digit-index c.requires c.loop-digit-test.true in grind (arith, next.0)

pub returns-clause-short : goal.returns-clause-short
returns-clause-short c =
    grind (arith, digits_value-is_number c.args.digits.now c.requires, digits_value-take-le 10 c.args.digits.now c.loop-digit.digit-index (omega arith), c.loop-digit.invariant)
