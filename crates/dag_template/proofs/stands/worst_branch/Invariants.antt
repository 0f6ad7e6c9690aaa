-- The worst branch phase of the last tasks.
use Rattle.std.proofs.Common.{◌≡◌, ◌≤◌, length, map, drop}
use Rattle.tree_types.specs.Phases.{worst_of}
use Rattle.dag_template.specs.declared.stands.Stand.{Stand}
use Rattle.dag_template.proofs.stands.worst_branch.Given as goal

abbrev pub invariant-loop-left : goal.invariant-loop-left
invariant-loop-left l = record {
  within : l.left ≤ length l.stands;
  told : l.phase ≡ worst_of (map (λ (s : Stand). s.branch) (drop l.left l.stands));
}

abbrev pub decreases-loop-left : goal.decreases-loop-left
decreases-loop-left l = l.left
