-- The worst phase of the last items.
use Rattle.std.proofs.Common.{◌≡◌, ◌≤◌, length, drop}
use Rattle.std.specs.Prelude.{map}
use Rattle.tree_types.specs.Phases.{worst_of}
use Rattle.meaning.specs.Lines.{Made}
use Rattle.row_states.proofs.looped.worst_phase.Given as goal

abbrev pub invariant-loop-left : goal.invariant-loop-left
invariant-loop-left l = record {
  within : l.left ≤ length l.states;
  told : l.phase ≡ worst_of (map (λ (m : Made). m.own.node.phase) (drop l.left l.states));
}

abbrev pub decreases-loop-left : goal.decreases-loop-left
decreases-loop-left l = l.left
