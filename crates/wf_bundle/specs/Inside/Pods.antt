-- How the pods of a plan are kept: their outcomes by the names of their workflows and nodes, in order.
use Rattle.std.specs.Prelude.{ℕ, List, Bool, ◌&&◌, map, bytes_eq}
use Rattle.item_reader.specs.declared.outcome.PlannedOutcome.{PlannedOutcome}
use Rattle.item_reader.specs.declared.outcomes.PlannedPod.{PlannedPod}
use Rattle.wf_bundle.specs.declared.outcomes.PodName.{PodName}

abbrev pub is_pod_named : List ℕ → List ℕ → PodName → Bool
is_pod_named workflow node name = bytes_eq workflow name.workflow && bytes_eq node name.node

abbrev pub pod_of : PodName × PlannedOutcome → PlannedPod
pod_of e = record { workflow = e.0.workflow; node = e.0.node; outcome = e.1 }

abbrev pub pods_of : List (PodName × PlannedOutcome) → List PlannedPod
pods_of es = map pod_of es
