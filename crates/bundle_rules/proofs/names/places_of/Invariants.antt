-- What is listed and what is left make the whole.
use Rattle.std.proofs.Common.{◌≡◌, ◌++◌, drop}
use Rattle.bundle_rules.specs.Names.{items_asked}
use Rattle.bundle_rules.proofs.names.places_of.Given as goal

abbrev pub invariant-loop-i : goal.invariant-loop-i
invariant-loop-i l = l.places ++ items_asked l.all l.before l.i (drop l.i l.items) ≡ items_asked l.all l.fn.known 0 l.items
