-- The names so far and what is left make the whole.
use Rattle.std.proofs.Common.{◌≡◌, ◌++◌, drop}
use Rattle.bundle_rules.specs.Names.{workflow_names}
use Rattle.bundle_rules.proofs.names.workflow_names.Given as goal

abbrev pub invariant-loop-i : goal.invariant-loop-i
invariant-loop-i l = l.names ++ workflow_names (drop l.i l.items) ≡ workflow_names l.items
