-- What is listed and what is left make the whole.
use Rattle.std.proofs.Common.{◌≡◌, ◌++◌, drop}
use Rattle.bundle_rules.specs.Claims.{resubmission_spots}
use Rattle.bundle_rules.proofs.seconds.add_resubmissions.Given as goal

abbrev pub invariant-loop-j : goal.invariant-loop-j
invariant-loop-j l =
    l.spots ++ resubmission_spots l.item l.j (drop l.j l.commands) ≡ l.fn.spots ++ resubmission_spots l.item 0 l.commands
