-- The phase of a workflow by the phases of its two top nodes (Argo, "Exit handlers").
-- That it is Running until both are over is this project's own.
use Rattle.std.specs.Prelude.{◌≡◌, Bool, true, ◌&&◌, Option, Some, None, option_map, if◌then◌else◌}
use Rattle.tree_types.specs.declared.phase.Phase.{Phase}
use Rattle.tree_types.specs.declared.phase.Phase.TheVariants.{Running}
use Rattle.tree_types.specs.Phases.{fulfilled}
use Rattle.wf_manifest.specs.declared.manifest.Manifest.{Manifest}
use Rattle.meaning.specs.Answers.{Answers}
use Rattle.meaning.specs.Trees.{main_made, exit_of, workflow_phase, lock_granted, phase}

-- the entrypoint's node is over, and the exit handler's, where there is one
abbrev pub are_over : Phase → Option Phase → Bool
are_over main None = fulfilled main
are_over main (Some exit) = fulfilled main && fulfilled exit

-- the phase of a workflow that is started and whose own lock is granted: Running until its top nodes are over
abbrev pub phase_of : Phase → Option Phase → Phase
phase_of main exit = if are_over main exit then workflow_phase main exit else Running

-- the phase of the entrypoint's node
abbrev pub main_phase : Manifest → Answers → Phase
main_phase m A = (main_made m A).own.node.phase

-- the phase of the exit handler's node, where there is one
abbrev pub exit_phase : Manifest → Answers → Option Phase
exit_phase m A = option_map (λ h. h.own.node.phase) (exit_of m A (main_made m A))

-- so it is the phase that is meant
abbrev pub PhaseIsMeant : Type 0
PhaseIsMeant =
    (m : Manifest) (A : Answers) → A.started ≡ true → lock_granted A m.lock ≡ true →
    phase m A ≡ phase_of (main_phase m A) (exit_phase m A)
