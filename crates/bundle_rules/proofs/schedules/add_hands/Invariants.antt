-- What is listed and what is left make the whole.
use Rattle.std.proofs.Common.{◌≡◌, ◌++◌, drop}
use Rattle.bundle_rules.specs.Schedules.{hands_asked}
use Rattle.bundle_rules.proofs.schedules.add_hands.Given as goal

abbrev pub invariant-loop-j : goal.invariant-loop-j
invariant-loop-j l =
    l.places ++ hands_asked l.workers l.item l.j (drop l.j l.steps) ≡ l.fn.places ++ hands_asked l.workers l.item 0 l.steps
