-- What is listed and what is left make the whole.
use Rattle.std.proofs.Common.{◌≡◌, ◌++◌, drop}
use Rattle.bundle_rules.specs.Counts.{workflow_spots}
use Rattle.bundle_rules.proofs.counts.add_workflows.Given as goal

abbrev pub invariant-loop-i : goal.invariant-loop-i
invariant-loop-i l = l.spots ++ workflow_spots l.i (drop l.i l.items) ≡ l.fn.spots ++ workflow_spots 0 l.items
