-- What is listed and what is left make the whole, and so do the names.
use Rattle.std.proofs.Common.{◌≡◌, ◌++◌, drop}
use Rattle.bundle_rules.specs.Names.{commands_asked, made}
use Rattle.bundle_rules.proofs.names.add_commands.Given as goal

abbrev pub invariant-loop-j : goal.invariant-loop-j
invariant-loop-j l = record {
  listed : l.places ++ commands_asked l.all l.names l.item l.j (drop l.j l.commands)
      ≡ l.fn.places ++ commands_asked l.all l.fn.before l.item 0 l.commands;
  named : l.names ++ made (drop l.j l.commands) ≡ l.fn.before ++ made l.commands;
}
