-- What is listed and what is left make the whole.
use Rattle.std.proofs.Common.{◌≡◌, ◌++◌, drop}
use Rattle.bundle_rules.specs.Claims.{pod_spots}
use Rattle.bundle_rules.proofs.seconds.add_pods.Given as goal

abbrev pub invariant-loop-j : goal.invariant-loop-j
invariant-loop-j l = l.spots ++ pod_spots l.item l.j (drop l.j l.pods) ≡ l.fn.spots ++ pod_spots l.item 0 l.pods
