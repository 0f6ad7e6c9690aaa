-- Worked examples of what a workflow's entrypoint makes: its node, what it asks for, and what stands below it.
use Rattle.std.proofs.Common.{◌≡◌, refl}
use Rattle.std.specs.Fmt.{digits}
use Rattle.std.specs.Prelude.{ℕ, List, [], ◌∷◌, true, false, Some, None, codes}
use Rattle.tree_types.specs.declared.path.Sel.{Sel}
use Rattle.tree_types.specs.declared.path.Sel.TheVariants.{Main, Exit, Group, Step, Task as task_sel, Attempt}
use Rattle.tree_types.specs.declared.phase.Phase.{Phase}
use Rattle.tree_types.specs.declared.phase.Phase.TheVariants.{Running, Failed}
use Rattle.tree_types.specs.declared.node.Kind.{Kind}
use Rattle.tree_types.specs.declared.node.Kind.TheVariants as kind
use Rattle.tree_types.specs.declared.node.Note.TheVariants as note
use Rattle.tree_types.specs.declared.node.Node.{Node}
use Rattle.tree_types.specs.declared.fact.Fact.{Fact}
use Rattle.tree_types.specs.declared.fact.Fact.TheVariants.{Started}
use Rattle.tree_types.specs.declared.want.Want.TheVariants as want
use Rattle.wf_manifest.specs.declared.templates.Policy.TheVariants.{OnFailure}
use Rattle.wf_manifest.specs.declared.templates.Body.TheVariants as body
use Rattle.wf_manifest.specs.declared.manifest.Manifest.{Manifest}
use Rattle.meaning.specs.Answers.{path, answers}
use Rattle.meaning.specs.Lines.{Made, Parts, nothing, may_begin, row_of, asked, then_parts, no_outputs, node, made}
use Rattle.meaning.specs.Trees.{main_made}
use Rattle.meaning.proofs.Samples.{template, workflow_of, workflow, call, task, failed, settled, begun}

abbrev entry : Manifest → List Fact → Made
entry m J = main_made m (answers J)

abbrev at : List Sel → List ℕ → ℕ → Kind → Phase → Node
at p name depth k phase = node (record { sels = Main ∷ p; name = name; depth = depth }) k phase note.None no_outputs

-- a pod that runs
abbrev pod : List Sel → List ℕ → ℕ → Made
pod p name depth = made (at p name depth kind.Pod Running) (want.Pod (path (Main ∷ p)) ∷ []) nothing

pub steps : entry (workflow (codes "s") (body.Steps ((call (codes "a") ∷ call (codes "b") ∷ []) ∷ []))) (Started ∷ [])
    ≡ made (at [] (codes "s") 1 kind.Steps Running) []
    (row_of
    (made (at (Group 0 ∷ []) (codes "s[0]") 2 kind.StepGroup Running) []
    (row_of
    (pod (Group 0 ∷ Step 0 ∷ []) (codes "s[0].a") 3 ∷ pod (Group 0 ∷ Step 1 ∷ []) (codes "s[0].b") 3 ∷ []))
    ∷ []))
unfolding digits
steps = refl

-- a task that may begin stands in its place
abbrev two_tasks : Manifest
two_tasks =
    workflow (codes "d")
    (body.Dag (record {
      targets = [];
      fail_fast = true;
      tasks = task (call (codes "A")) ∷ task (call (codes "B")) ∷ [];
    }))

abbrev b_runs : Parts
b_runs = row_of (pod (task_sel 1 ∷ []) (codes "d.B") 2 ∷ [])

pub a_dag : entry two_tasks (Started ∷ begun 1 ∷ [])
    ≡ made (at [] (codes "d") 1 kind.DAG Running) [] (may_begin (path (Main ∷ task_sel 0 ∷ [])) b_runs)
unfolding digits
a_dag = refl

-- the timer of the next attempt is asked for behind the attempts
abbrev retried : Manifest
retried =
    workflow_of (codes "r")
    (record (template (codes "main") body.Pod) {
      retry = Some (record {
        limit = Some 1;
        policy = OnFailure;
        backoff = Some (record { duration = 5; factor = 2; max_duration = None });
      });
    } ∷ [])

pub a_retry : entry retried (Started ∷ settled (Attempt 0 ∷ []) failed ∷ [])
    ≡ made (at [] (codes "r") 1 kind.Retry Running) []
    (then_parts (row_of (made (at (Attempt 0 ∷ []) (codes "r(0)") 2 kind.Pod Failed) [] nothing ∷ []))
    (asked (want.Timer (path (Main ∷ Attempt 1 ∷ [])) 5 ∷ [])))
unfolding digits
a_retry = refl

-- an exit hook stands below the node of its step, which is not finished before it
abbrev hooked : Manifest
hooked =
    workflow (codes "h")
    (body.Steps
    ((record (call (codes "a")) {
      exit = Some (record { template = codes "c"; arguments = []; short = true });
    } ∷ []) ∷ []))

abbrev a_failed : Made
a_failed =
    let m : Made =
    made (at (Group 0 ∷ Step 0 ∷ []) (codes "h[0].a") 3 kind.Pod Failed) []
    (row_of (pod (Group 0 ∷ Step 0 ∷ Exit ∷ []) (codes "h[0].a.onExit") 4 ∷ [])) in
    record m { own = record m.own { finished = false } }

pub a_hook : entry hooked (Started ∷ settled (Group 0 ∷ Step 0 ∷ []) failed ∷ [])
    ≡ made (at [] (codes "h") 1 kind.Steps Running) []
    (row_of (made (at (Group 0 ∷ []) (codes "h[0]") 2 kind.StepGroup Running) [] (row_of (a_failed ∷ [])) ∷ []))
unfolding digits
a_hook = refl
