-- The places that are left decide.
use Rattle.std.proofs.Common.{◌≡◌, drop}
use Rattle.bundle_rules.specs.Names.{first_broken}
use Rattle.bundle_rules.proofs.asked.refuse_first.Given as goal

abbrev pub invariant-loop-i : goal.invariant-loop-i
invariant-loop-i l = first_broken l.rule (drop l.i l.places) ≡ first_broken l.rule l.places
