-- The places that are left decide, beside the claims before.
use Rattle.std.proofs.Common.{◌≡◌, []}
use Rattle.std.specs.Vec.Iter.{into_iter_items}
use Rattle.bundle_rules.specs.Claims.{spots, first_second}
use Rattle.bundle_rules.proofs.seconds.ask_seconds.Given as goal

abbrev pub invariant-loop-spot : goal.invariant-loop-spot
invariant-loop-spot l =
    first_second l.claims.keys (into_iter_items l.spot-iterator) ≡ first_second [] (spots 0 l.items)
