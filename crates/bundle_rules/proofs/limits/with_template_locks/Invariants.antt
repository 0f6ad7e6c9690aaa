-- The names so far and what is left make the whole.
use Rattle.std.proofs.Common.{◌≡◌, ◌++◌, drop}
use Rattle.std.specs.List.{flat_map}
use Rattle.bundle_rules.specs.LockLimits.{lock_text}
use Rattle.bundle_rules.proofs.limits.with_template_locks.Given as goal

abbrev pub invariant-loop-i : goal.invariant-loop-i
invariant-loop-i l =
    l.after ++ flat_map (λ t. lock_text t.lock) (drop l.i l.templates) ≡ l.fn.names ++ flat_map (λ t. lock_text t.lock) l.templates
