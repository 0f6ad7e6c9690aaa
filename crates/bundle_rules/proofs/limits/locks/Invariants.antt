-- The names so far and what is left make the whole.
use Rattle.std.proofs.Common.{◌≡◌, ◌++◌, drop}
use Rattle.bundle_rules.specs.LockLimits.{locks}
use Rattle.bundle_rules.proofs.limits.locks.Given as goal

abbrev pub invariant-loop-i : goal.invariant-loop-i
invariant-loop-i l = l.names ++ locks (drop l.i l.items) ≡ locks l.items
