-- Worked examples of declared outputs: which a node has, and where it is Error for want of one.
use Rattle.std.proofs.Common.{◌≡◌, refl}
use Rattle.std.specs.Fmt.{digits}
use Rattle.std.specs.Prelude.{ℕ, List, [], ◌∷◌, true, false, Some, None, codes}
use Rattle.tree_types.specs.declared.path.Sel.TheVariants.{Main, Group, Step}
use Rattle.tree_types.specs.declared.phase.Phase.{Phase}
use Rattle.tree_types.specs.declared.phase.Phase.TheVariants.{Succeeded, Failed, Error}
use Rattle.tree_types.specs.declared.node.Note.{Note}
use Rattle.tree_types.specs.declared.node.Note.TheVariants as note
use Rattle.tree_types.specs.declared.node.Node.{Node}
use Rattle.tree_types.specs.declared.outcome.Param.{Param}
use Rattle.tree_types.specs.declared.outcome.Outputs.{Outputs}
use Rattle.tree_types.specs.declared.fact.Fact.{Fact}
use Rattle.tree_types.specs.declared.fact.Fact.TheVariants.{Started, Due}
use Rattle.wf_manifest.specs.declared.templates.OutputDecl.{OutputDecl}
use Rattle.wf_manifest.specs.declared.templates.Template.{Template}
use Rattle.wf_manifest.specs.declared.templates.Body.{Body}
use Rattle.wf_manifest.specs.declared.templates.Body.TheVariants as body
use Rattle.wf_manifest.specs.declared.manifest.Manifest.{Manifest}
use Rattle.meaning.specs.Answers.{path}
use Rattle.meaning.specs.Trees.{tree}
use Rattle.meaning.proofs.Samples.{template, container, workflow_of, call, call_when, declared, declared_from, param, succeeded, failed, settled, printed}

-- p has a default, and q has none
abbrev p_and_q : List OutputDecl
p_and_q = declared (codes "p") (Some (codes "1")) ∷ declared (codes "q") None ∷ []

abbrev with_p_and_q : List ℕ → Body → Template
with_p_and_q name b = record (template name b) { outputs = p_and_q }

abbrev of_a_root : Body → Manifest
of_a_root b = workflow_of (codes "w") (with_p_and_q (codes "main") b ∷ container ∷ [])

-- what is seen of the root
abbrev seen : List Node → List (Phase × Note × Outputs)
seen [] = []
seen (n ∷ ns) = (n.phase, n.note, n.outputs) ∷ []

abbrev roots : Manifest → List Fact → List (Phase × Note × Outputs)
roots m J = seen (tree m J)

-- ---- a pod

-- it keeps the default of p, though q is lacking
pub a_default_is_kept : roots (of_a_root body.Pod) (Started ∷ settled [] succeeded ∷ [])
    ≡ (Error, note.NoOutput (codes "q"), record { result = None; params = param (codes "p") (codes "1") ∷ [] }) ∷ []
unfolding digits
a_default_is_kept = refl

abbrev of_the_outcome : List Param
of_the_outcome = param (codes "q") (codes "7") ∷ param (codes "x") (codes "8") ∷ []

-- where none is lacking, the defaults stand behind what the outcome has
pub all_are_there : roots (of_a_root body.Pod)
    (Started ∷ settled [] (record succeeded { result = Some (codes "r"); params = of_the_outcome }) ∷ [])
    ≡ (
      Succeeded,
      note.None,
      record {
        result = Some (codes "r");
        params = param (codes "q") (codes "7") ∷ param (codes "x") (codes "8") ∷ param (codes "p") (codes "1") ∷ [];
      },
    )
    ∷ []
unfolding digits
all_are_there = refl

-- a pod that Failed has its outcome's outputs alone, without the default of p
pub a_failed_pod : roots (of_a_root body.Pod) (Started ∷ settled [] (record failed { params = of_the_outcome }) ∷ [])
    ≡ (Failed, note.None, record { result = None; params = of_the_outcome }) ∷ []
unfolding digits
a_failed_pod = refl

-- ---- a suspended node

pub a_suspended_node : roots (of_a_root (body.Suspend None)) (Started ∷ Due (path (Main ∷ [])) ∷ [])
    ≡ (Error, note.NoOutput (codes "q"), record { result = None; params = param (codes "p") (codes "1") ∷ [] }) ∷ []
unfolding digits
a_suspended_node = refl

-- ---- steps

-- x is the result of the step a, y that of the step a where it has one, and z that of no step
abbrev x_y_and_z : List OutputDecl
x_y_and_z =
    declared_from (codes "x") (codes "{{steps.a.outputs.result}}")
    ∷ record (declared_from (codes "y") (codes "{{steps.a.outputs.parameters.y}}")) { default = Some (codes "2") }
    ∷ declared_from (codes "z") (codes "{{steps.a.outputs.parameters.z}}") ∷ []

abbrev with_a_step : List OutputDecl → Manifest
with_a_step ds =
    workflow_of (codes "w")
    (record (template (codes "main") (body.Steps ((call (codes "a") ∷ []) ∷ []))) { outputs = ds } ∷ container ∷ [])

pub steps_keep_what_they_have : roots (with_a_step x_y_and_z)
    (Started ∷ settled (Group 0 ∷ Step 0 ∷ []) (record succeeded { result = Some (codes "r") }) ∷ [])
    ≡ (
      Error,
      note.NoOutput (codes "z"),
      record {
        result = None;
        params = param (codes "x") (codes "r") ∷ param (codes "y") (codes "2") ∷ [];
      },
    )
    ∷ []
unfolding digits
steps_keep_what_they_have = refl

-- ---- a step that uses what a node that is Error has kept

abbrev kept_is_used : Manifest
kept_is_used =
    workflow_of (codes "w")
    (template (codes "main")
    (body.Steps
    ((record (call (codes "a")) {
      template = codes "t";
      continue_on = Some (record { failed = false; error = true });
    } ∷ [])
    ∷ (call_when (codes "yes") (codes "{{steps.a.outputs.parameters.p}} == 1")
    ∷ call_when (codes "no") (codes "{{steps.a.outputs.parameters.p}} == 2")
    ∷ call_when (codes "q") (codes "{{steps.a.outputs.parameters.q}} == 1") ∷ []) ∷ []))
    ∷ with_p_and_q (codes "t") body.Pod ∷ container ∷ [])

pub a_kept_output_is_used : printed kept_is_used
    (Started ∷ settled (Group 0 ∷ Step 0 ∷ []) succeeded ∷ settled (Group 1 ∷ Step 0 ∷ []) succeeded ∷ [])
    ≡ codes "workflow w Error"
    ∷ codes "  Error Steps w"
    ∷ codes "    Succeeded StepGroup w[0]"
    ∷ codes "      Error Pod w[0].a -- missing output q"
    ∷ codes "    Error StepGroup w[1]"
    ∷ codes "      Succeeded Pod w[1].yes"
    ∷ codes "      Skipped Skipped w[1].no -- when is false"
    ∷ codes "      Error Pod w[1].q -- unresolved steps.a.outputs.parameters.q"
    ∷ []
unfolding digits
a_kept_output_is_used = refl
