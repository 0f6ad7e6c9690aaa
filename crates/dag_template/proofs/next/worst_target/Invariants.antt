-- The worst branch phase of the last targets.
use Rattle.std.proofs.Common.{◌≡◌, ◌≤◌, length, drop}
use Rattle.dag_template.specs.Following.{worst_target}
use Rattle.dag_template.proofs.next.worst_target.Given as goal

abbrev pub invariant-loop-left : goal.invariant-loop-left
invariant-loop-left l = record {
  within : l.left ≤ length l.targets;
  told : l.phase ≡ worst_target (drop l.left l.targets);
}

abbrev pub decreases-loop-left : goal.decreases-loop-left
decreases-loop-left l = l.left
