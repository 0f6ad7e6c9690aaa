-- What the items that are made read as.
use Rattle.std.proofs.Common.{◌≡◌, ℕ, suc, Bool, true, false, List, [], ◌∷◌, ◌++◌, Some, Ok, codes, refl, if◌then◌else◌}
use Rattle.std.specs.Prelude.{flat_map}
use Rattle.serde_json.specs.Data.{Data}
use Rattle.serde_json.specs.View.{items_of}
use Rattle.json_fields.specs.Paths.{Path}
use Rattle.field_kinds.specs.Kinds.{object_of, members}
use Rattle.template_reader.specs.Names.{resource_name}
use Rattle.call_reader.specs.Calls.{sequence_fields, list_loop, loop_said, exit_hook, head_fields, tail_fields, step_fields, task_fields, dag_fields}
use Rattle.template_reader.specs.Templates.{body_in, template_refused, head_fields as template_head_fields, tail_fields as template_tail_fields, template_fields}
use Rattle.wf_reader.specs.Workflows.{metadata_fields, spec_refused, head_fields as wf_head_fields, spec_fields, workflow_fields}
use Rattle.item_reader.specs.Items.{item}
use Rattle.item_reader.specs.PodOutcomes.{outcome_fields, pod_fields, plan_fields}
use Rattle.item_reader.specs.declared.outcomes.PlannedPod.{PlannedPod}
use Rattle.item_reader.specs.declared.items.Item.TheVariants as item_of
use Rattle.generator.specs.declared.draws.Shape.{Shape}
use Rattle.generator.specs.declared.draws.Shape.TheVariants.{Pod, Steps, Dag, Loop as Looped}
use Rattle.generator.specs.declared.draws.Drawn.{Drawn}
use Rattle.generator.specs.Bundles.{name, workflow_named, workflow, pod_named, pods_of, outcomes}
use Rattle.generated_laws.proofs.Names.{name_fits}
use Rattle.generated_laws.proofs.Texts.{numeral}
use Rattle.generated_laws.proofs.Said.{body_of, manifest, failing, planned, plan, said, IsShort}

read_shape : (i : ℕ) (n : List ℕ) (shape : Shape) → resource_name n ≡ Some n → IsShort shape → item i [] (workflow_named n shape) ≡ Ok (item_of.Workflow (manifest n (body_of shape)))
unfolding workflow_fields metadata_fields spec_refused wf_head_fields spec_fields template_refused template_head_fields template_tail_fields template_fields body_in step_fields head_fields tail_fields loop_said list_loop sequence_fields exit_hook task_fields dag_fields
read_shape i n Pod h k = rw h refl
read_shape i n Steps h k = rw h refl
read_shape i n Dag h k = rw h refl
read_shape i n (Looped count) h k = rw (h, numeral count k) refl

-- a workflow that is drawn, at whatever place
pub read_drawn : (i : ℕ) (d : Drawn) → IsShort d.shape → item i [] (workflow d) ≡ Ok (said d)
unfolding workflow
read_drawn i d k = read_shape i (name d.position) d.shape (name_fits d.position) k

-- ---- outcomes

read_pod : (at : Path) (n : List ℕ) (shape : Shape) → resource_name n ≡ Some n → object_of pod_fields at (pod_named n shape) ≡ Ok (failing n shape)
unfolding pod_fields outcome_fields
read_pod at n shape h = rw h refl

read_if : (b : Bool) (n : List ℕ) (shape : Shape) (rest : List Data) (read : List PlannedPod) (at : Path) → resource_name n ≡ Some n
    → ((j : ℕ) → members (object_of pod_fields) at j (items_of rest) ≡ Ok read)
    → (j : ℕ) → members (object_of pod_fields) at j (items_of ((if b then pod_named n shape ∷ [] else []) ++ rest)) ≡ Ok ((if b then failing n shape ∷ [] else []) ++ read)
read_if true n shape rest read at h more j = rw (read_pod _ n shape h, more (suc j)) refl
read_if false n shape rest read at h more j = more j

pub read_pods : (ds : List Drawn) (at : Path) (j : ℕ) → members (object_of pod_fields) at j (items_of (flat_map pods_of ds)) ≡ Ok (flat_map planned ds)
unfolding pods_of
read_pods [] at j = refl
read_pods (d ∷ ds) at j = read_if d.fails (name d.position) d.shape (flat_map pods_of ds) (flat_map planned ds) at (name_fits d.position) (read_pods ds at) j

pub read_outcomes : (i : ℕ) (pods : List Data) (read : List PlannedPod) → ((at : Path) (j : ℕ) → members (object_of pod_fields) at j (items_of pods) ≡ Ok read)
    → item i [] (outcomes pods) ≡ Ok (item_of.Outcomes (plan read))
unfolding plan_fields outcome_fields
read_outcomes i [] read h =
    let none = h [] 0 in
    let same : [] ≡ read = cc in
    rw (← same) refl
read_outcomes i (pod ∷ pods) read h = rw (h (codes "pods") 0) refl
