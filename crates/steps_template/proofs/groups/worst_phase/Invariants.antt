-- The worst phase of the last members.
use Rattle.std.proofs.Common.{◌≡◌, ◌≤◌, length, map, drop}
use Rattle.tree_types.specs.Phases.{worst_of}
use Rattle.steps_template.specs.Groups.{member_phase}
use Rattle.steps_template.proofs.groups.worst_phase.Given as goal

abbrev pub invariant-loop-left : goal.invariant-loop-left
invariant-loop-left l = record {
  within : l.left ≤ length l.members;
  told : l.phase ≡ worst_of (map member_phase (drop l.left l.members));
}

abbrev pub decreases-loop-left : goal.decreases-loop-left
decreases-loop-left l = l.left
