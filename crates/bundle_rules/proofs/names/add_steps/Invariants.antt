-- What is listed and what is left make the whole.
use Rattle.std.proofs.Common.{◌≡◌, ◌++◌, drop}
use Rattle.bundle_rules.specs.Names.{steps_asked}
use Rattle.bundle_rules.proofs.names.add_steps.Given as goal

abbrev pub invariant-loop-j : goal.invariant-loop-j
invariant-loop-j l =
    l.places ++ steps_asked l.all l.item l.j (drop l.j l.steps) ≡ l.fn.places ++ steps_asked l.all l.item 0 l.steps
