-- The names so far and what is left make the whole.
use Rattle.std.proofs.Common.{◌≡◌, ◌++◌, drop}
use Rattle.bundle_rules.specs.Names.{made_names}
use Rattle.bundle_rules.proofs.names.with_made_names.Given as goal

abbrev pub invariant-loop-i : goal.invariant-loop-i
invariant-loop-i l = l.after ++ made_names (drop l.i l.items) ≡ l.fn.names ++ made_names l.items
