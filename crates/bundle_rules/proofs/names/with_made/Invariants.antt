-- The names so far and what is left make the whole.
use Rattle.std.proofs.Common.{◌≡◌, ◌++◌, drop}
use Rattle.bundle_rules.specs.Names.{made}
use Rattle.bundle_rules.proofs.names.with_made.Given as goal

abbrev pub invariant-loop-j : goal.invariant-loop-j
invariant-loop-j l = l.after ++ made (drop l.j l.commands) ≡ l.fn.names ++ made l.commands
