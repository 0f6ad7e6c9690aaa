-- What is listed and what is left make the whole.
use Rattle.std.proofs.Common.{◌≡◌, ◌++◌, drop}
use Rattle.std.specs.List.{flat_map}
use Rattle.bundle_rules.specs.LockLimits.{entry_limit}
use Rattle.bundle_rules.proofs.limits.add_config.Given as goal

abbrev pub invariant-loop-i : goal.invariant-loop-i
invariant-loop-i l =
    l.limits ++ flat_map (entry_limit l.named l.config.name) (drop l.i l.entries) ≡ l.fn.limits ++ flat_map (entry_limit l.named l.config.name) l.entries
