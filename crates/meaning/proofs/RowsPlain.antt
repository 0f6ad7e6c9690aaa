-- Worked examples of plain manifests, and of the tree of planned outcomes.
use Rattle.std.proofs.Common.{◌≡◌, refl}
use Rattle.std.specs.Fmt.{digits}
use Rattle.std.specs.Prelude.{ℕ, List, [], ◌∷◌, Bool, true, false, Option, Some, None, if◌then◌else◌, bytes_eq, codes, map}
use Rattle.tree_types.specs.declared.outcome.Outcome.{Outcome}
use Rattle.tree_types.specs.Texts.{node_line}
use Rattle.tag_text.specs.Parts.{parts_of}
use Rattle.wf_manifest.specs.declared.templates.Policy.TheVariants.{OnFailure}
use Rattle.wf_manifest.specs.declared.templates.Backoff.{Backoff}
use Rattle.wf_manifest.specs.declared.templates.Template.{Template}
use Rattle.wf_manifest.specs.declared.templates.Body.{Body}
use Rattle.wf_manifest.specs.declared.templates.Body.TheVariants as body
use Rattle.wf_manifest.specs.declared.manifest.Manifest.{Manifest}
use Rattle.meaning.specs.Plain.{plain, is_plain}
use Rattle.meaning.proofs.Samples.{template, container, workflow_of, workflow, call, task, mutex, succeeded, failed}

-- ---- which manifests are plain, by what they declare

-- a workflow of a container, beside a template that nothing calls
abbrev beside : Template → Manifest
beside t = workflow_of (codes "w") (template (codes "main") body.Pod ∷ t ∷ [])

-- a template of this body
abbrev of_body : Body → Template
of_body b = template (codes "t") b

abbrev dag_with : Bool → Body
dag_with fail_fast = body.Dag (record { targets = []; fail_fast = fail_fast; tasks = task (call (codes "A")) ∷ [] })

abbrev retried : Option Backoff → Template
retried b = record (of_body body.Pod) { retry = Some (record { limit = None; policy = OnFailure; backoff = b }) }

-- pods and steps are plain
pub steps_are : is_plain (workflow (codes "w") (body.Steps ((call (codes "a") ∷ []) ∷ []))) ≡ true
steps_are = refl

-- so is a DAG without `failFast`
pub a_dag_without_fail_fast_is : is_plain (beside (of_body (dag_with false))) ≡ true
a_dag_without_fail_fast_is = refl

-- one with it is not, though nothing calls it
pub a_dag_with_fail_fast_is_not : is_plain (beside (of_body (dag_with true))) ≡ false
a_dag_with_fail_fast_is_not = refl

-- a retry is plain
pub a_retry_is : is_plain (beside (retried None)) ≡ true
a_retry_is = refl

-- but not with a `backoff`, be it of 0 seconds
pub a_retry_with_backoff_is_not : is_plain
    (beside (retried (Some (record { duration = 0; factor = 1; max_duration = None })))) ≡ false
a_retry_with_backoff_is_not = refl

-- a suspend template is not
pub a_suspend_is_not : is_plain (beside (of_body (body.Suspend None))) ≡ false
a_suspend_is_not = refl

-- nor a template with a lock
pub a_lock_is_not : is_plain (beside (record (of_body body.Pod) { lock = Some (mutex (codes "m")) })) ≡ false
a_lock_is_not = refl

-- nor a workflow with one
pub a_workflows_lock_is_not : is_plain (record (beside container) { lock = Some (mutex (codes "m")) }) ≡ false
a_workflows_lock_is_not = refl

-- nor a memoized template
pub a_memoized_template_is_not : is_plain
    (beside
    (record (of_body body.Pod) {
      memoize = Some (record { key = parts_of (codes "k"); max_age = None; cache = codes "mc" });
    })) ≡ false
a_memoized_template_is_not = refl

-- ---- the tree of planned outcomes

-- the first pod succeeds, b fails, and for all others nothing is planned
abbrev planned : List ℕ → Option Outcome
planned name =
    if bytes_eq name (codes "w[0].a") then Some succeeded
    else if bytes_eq name (codes "w[1].b") then Some failed else None

-- the first pod succeeds, and all others fail
abbrev failing : List ℕ → Option Outcome
failing name = if bytes_eq name (codes "w[0].a") then Some succeeded else Some failed

abbrev two_groups : Manifest
two_groups =
    workflow (codes "w")
    (body.Steps ((call (codes "a") ∷ []) ∷ (call (codes "b") ∷ call (codes "c") ∷ []) ∷ []))

-- each pod has the outcome that is planned for its name
pub of_a_default : map node_line (plain two_groups failing)
    ≡ codes "  Failed Steps w"
    ∷ codes "    Succeeded StepGroup w[0]"
    ∷ codes "      Succeeded Pod w[0].a"
    ∷ codes "    Failed StepGroup w[1]"
    ∷ codes "      Failed Pod w[1].b"
    ∷ codes "      Failed Pod w[1].c"
    ∷ []
unfolding digits
of_a_default = refl

-- the workflow is started; a pod for which nothing is planned runs
pub of_planned_outcomes : map node_line (plain two_groups planned)
    ≡ codes "  Running Steps w"
    ∷ codes "    Succeeded StepGroup w[0]"
    ∷ codes "      Succeeded Pod w[0].a"
    ∷ codes "    Running StepGroup w[1]"
    ∷ codes "      Failed Pod w[1].b"
    ∷ codes "      Running Pod w[1].c"
    ∷ []
unfolding digits
of_planned_outcomes = refl
