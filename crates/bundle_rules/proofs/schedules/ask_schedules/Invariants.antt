-- What is listed and what is left make the whole.
use Rattle.std.proofs.Common.{◌≡◌, ◌++◌, drop}
use Rattle.bundle_rules.specs.Schedules.{schedules_in}
use Rattle.bundle_rules.proofs.schedules.ask_schedules.Given as goal

abbrev pub invariant-loop-i : goal.invariant-loop-i
invariant-loop-i l = l.places ++ schedules_in l.i (drop l.i l.items) ≡ schedules_in 0 l.items
