-- What is planned for the pods of a document. The resource `PodOutcomes`, which says it, is this project's own.
use Rattle.std.specs.Prelude.{ℕ, List, [], ◌∷◌, ◌++◌, Bool, true, not, ◌&&◌, Option, Some, None, option_map, bytes_eq}
use Rattle.std.specs.List.{find, list_any}
use Rattle.item_reader.specs.declared.outcome.PlannedOutcome.{PlannedOutcome}
use Rattle.item_reader.specs.declared.outcomes.PlannedPod.{PlannedPod}
use Rattle.item_reader.specs.declared.outcomes.Plan.{Plan}

abbrev pub is_for : List ℕ → List ℕ → PlannedPod → Bool
is_for workflow node pod = bytes_eq workflow pod.workflow && bytes_eq node pod.node

abbrev pub or_default : Option PlannedOutcome → Option PlannedOutcome → Option PlannedOutcome
or_default default None = default
or_default default (Some outcome) = Some outcome

-- what is planned by the first of these for the pod of a node
abbrev pub named : List ℕ → List ℕ → List PlannedPod → Option PlannedOutcome
named workflow node pods = option_map (λ pod. pod.outcome) (find (is_for workflow node) pods)

-- what is planned for the pod of a node: by the first member of `pods` for it, else by the default
abbrev pub planned_for : Plan → List ℕ → List ℕ → Option PlannedOutcome
planned_for plan workflow node = or_default plan.default (named workflow node plan.pods)

-- ---- pods

abbrev pub is_same_pod : PlannedPod → PlannedPod → Bool
is_same_pod p q = is_for p.workflow p.node q

abbrev pub pods_differ_from : List PlannedPod → List PlannedPod → Bool
pods_differ_from before [] = true
pods_differ_from before (p ∷ ps) = not (list_any (is_same_pod p) before) && pods_differ_from (before ++ p ∷ []) ps

-- no two are for one workflow and node
abbrev pub pods_differ : List PlannedPod → Bool
pods_differ ps = pods_differ_from [] ps
