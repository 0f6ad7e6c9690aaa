use Rattle.std.proofs.Common.{◌≡◌, drop}
use Rattle.when_expr.specs.Truth.{digits_from}
use Rattle.when_expr.proofs.number.digits.Given as goal

-- the digits behind complete the number so far
abbrev pub invariant-loop-i : goal.invariant-loop-i
invariant-loop-i l = digits_from l.value (drop l.i l.text) ≡ digits_from 0 l.text
