-- What is listed and what is left make the whole.
use Rattle.std.proofs.Common.{◌≡◌, ◌++◌, [], drop}
use Rattle.bundle_rules.specs.LockLimits.{limits_from}
use Rattle.bundle_rules.proofs.limits.limits_by.Given as goal

abbrev pub invariant-loop-i : goal.invariant-loop-i
invariant-loop-i l = l.limits ++ limits_from l.named l.before (drop l.i l.items) ≡ limits_from l.named [] l.items
