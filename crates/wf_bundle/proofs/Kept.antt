-- Look-ups in the kept pods.
use Rattle.std.proofs.Common.{◌≡◌, ℕ, List, [], ◌∷◌, ◌++◌, Bool, true, false, cond, ◌||◌, Option, Some, None, refl, ap, ◌∙◌}
use Rattle.std.specs.Prelude.{is_some, option_map}
use Rattle.std.specs.List.{list_any, find}
use Rattle.std.specs.Map.{lookup}
use Rattle.std.proofs.lemmas.List.{map-append}
use Rattle.item_reader.specs.declared.outcome.PlannedOutcome.{PlannedOutcome}
use Rattle.item_reader.specs.declared.outcomes.PlannedPod.{PlannedPod}
use Rattle.wf_bundle.specs.declared.outcomes.PodName.{PodName}
use Rattle.wf_bundle.specs.Outcomes.{is_for, named, is_same_pod}
use Rattle.wf_bundle.specs.Inside.Pods.{is_pod_named, pod_of, pods_of}

abbrev name_of : PlannedPod → PodName
name_of pod = record { workflow = pod.workflow; node = pod.node }

pub is_kept : (pod : PlannedPod) (es : List (PodName × PlannedOutcome)) → list_any (is_same_pod pod) (pods_of es) ≡ is_some (lookup (is_pod_named pod.workflow pod.node) es)
is_kept pod [] = refl
is_kept pod (e ∷ es) = ap (λ b. is_pod_named pod.workflow pod.node e.0 || b) (is_kept pod es) ∙ either (is_pod_named pod.workflow pod.node e.0) e.1 (lookup (is_pod_named pod.workflow pod.node) es)
  where
    either : (is : Bool) (o : PlannedOutcome) (more : Option PlannedOutcome) → (is || is_some more) ≡ is_some (cond is (Some o) more)
    either true o more = refl
    either false o more = refl

pub named_kept : (workflow node : List ℕ) (es : List (PodName × PlannedOutcome)) → named workflow node (pods_of es) ≡ lookup (is_pod_named workflow node) es
named_kept workflow node [] = refl
named_kept workflow node (e ∷ es) = either (is_pod_named workflow node e.0) (pod_of e) (find (is_for workflow node) (pods_of es)) ∙ ap (λ more. cond (is_pod_named workflow node e.0) (Some e.1) more) (named_kept workflow node es)
  where
    either : (is : Bool) (pod : PlannedPod) (more : Option PlannedPod) → option_map (λ pod. pod.outcome) (cond is (Some pod) more) ≡ cond is (Some pod.outcome) (option_map (λ pod. pod.outcome) more)
    either true pod more = refl
    either false pod more = refl

pub no_value : {A : Type 0} (o : Option A) → is_some o ≡ false → o ≡ None
no_value (Some x) e = absurd cc
no_value None e = refl

pub pod_added : (es : List (PodName × PlannedOutcome)) (pod : PlannedPod) → pods_of (es ++ (name_of pod, pod.outcome) ∷ []) ≡ pods_of es ++ pod ∷ []
pod_added es pod = map-append pod_of es ((name_of pod, pod.outcome) ∷ [])
