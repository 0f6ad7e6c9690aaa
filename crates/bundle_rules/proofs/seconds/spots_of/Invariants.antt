-- What is listed and what is left make the whole.
use Rattle.std.proofs.Common.{◌≡◌, ◌++◌, drop}
use Rattle.bundle_rules.specs.Claims.{spots}
use Rattle.bundle_rules.proofs.seconds.spots_of.Given as goal

abbrev pub invariant-loop-i : goal.invariant-loop-i
invariant-loop-i l = l.spots ++ spots l.i (drop l.i l.items) ≡ spots 0 l.items
