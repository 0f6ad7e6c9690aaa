-- Worked examples of exit hooks and exit handlers: which tags they see, and where a hook runs.
use Rattle.std.proofs.Common.{◌≡◌, refl}
use Rattle.std.specs.Fmt.{digits}
use Rattle.std.specs.Prelude.{ℕ, List, [], ◌∷◌, Some, None, codes}
use Rattle.serde_json.proofs.OnLiterals.{serde_json_on_literals}
use Rattle.tree_types.specs.declared.path.Sel.TheVariants.{Main, Exit, Group, Step, Task as task_sel, Item}
use Rattle.tree_types.specs.declared.fact.Fact.{Fact}
use Rattle.tree_types.specs.declared.fact.Fact.TheVariants.{Started, Memo}
use Rattle.tree_types.specs.declared.want.Want.TheVariants as want
use Rattle.tag_text.specs.Parts.{parts_of}
use Rattle.wf_manifest.specs.declared.calls.Call.{Call}
use Rattle.wf_manifest.specs.declared.templates.Template.{Template}
use Rattle.wf_manifest.specs.declared.templates.Body.TheVariants as body
use Rattle.wf_manifest.specs.declared.manifest.Manifest.{Manifest}
use Rattle.meaning.specs.Answers.{path}
use Rattle.meaning.specs.Lines.{no_outputs}
use Rattle.meaning.specs.Trees.{wants}
use Rattle.meaning.proofs.Samples.{template, workflow_of, workflow, call, call_with, over, hook_with, task, one_step, dag_workflow, argument, declared, param, echo, call_echo, succeeded, failed, errored, settled, printed, params_at}

-- ---- the tags of an exit hook: those of its own step or task

-- a step or task of a container, whose exit hook gives echo this text
abbrev with_hook : List ℕ → List ℕ → Call
with_hook name text =
    record (call name) { exit = Some (hook_with (codes "e") (argument (codes "x") text ∷ [])) }

-- its phase, its result and an output parameter, though it Failed
pub the_tags_of_its_step : params_at (codes "h[0].a.onExit")
    (one_step (codes "h")
    (with_hook (codes "a") (codes "{{steps.a.status}} {{steps.a.outputs.result}} {{steps.a.outputs.parameters.p}}"))
    (echo ∷ []))
    (Started ∷ settled (Group 0 ∷ Step 0 ∷ [])
    (record failed { result = Some (codes "r"); params = param (codes "p") (codes "7") ∷ [] }) ∷ [])
    ≡ param (codes "x") (codes "Failed r 7") ∷ []
unfolding digits
the_tags_of_its_step = refl

-- a task's tags begin with `tasks`
pub the_tags_of_its_task : params_at (codes "h.A.onExit")
    (dag_workflow (codes "h") (task (with_hook (codes "A") (codes "{{tasks.A.status}}")) ∷ []) (echo ∷ []))
    (Started ∷ settled (task_sel 0 ∷ []) errored ∷ [])
    ≡ param (codes "x") (codes "Error") ∷ []
unfolding digits
the_tags_of_its_task = refl

-- ---- below a loop: the hook of each item sees that item, and that item's own node under the name of its step

abbrev hook_of_each : Manifest
hook_of_each =
    one_step (codes "h")
    (record (with_hook (codes "a") (codes "{{item}} is {{steps.a.status}}")) {
      each = Some (over (codes "u" ∷ codes "v" ∷ []));
    })
    (echo ∷ [])

-- u succeeded, and v failed
abbrev u_and_v : List Fact
u_and_v =
    Started ∷ settled (Group 0 ∷ Step 0 ∷ Item 0 ∷ []) succeeded ∷ settled (Group 0 ∷ Step 0 ∷ Item 1 ∷ []) failed ∷ []

-- the hook of u says u, and that it Succeeded
pub the_first_items_hook : params_at (codes "h[0].a(0:u).onExit") hook_of_each u_and_v
    ≡ param (codes "x") (codes "u is Succeeded") ∷ []
unfolding digits serde_json_on_literals
the_first_items_hook = refl

-- the hook of v says v, and that it Failed
pub the_second_items_hook : params_at (codes "h[0].a(1:v).onExit") hook_of_each u_and_v
    ≡ param (codes "x") (codes "v is Failed") ∷ []
unfolding digits serde_json_on_literals
the_second_items_hook = refl

-- each item has its own hook below it, and the TaskGroup has none
pub a_hook_for_each_item : printed hook_of_each u_and_v
    ≡ codes "workflow h Failed"
    ∷ codes "  Failed Steps h"
    ∷ codes "    Failed StepGroup h[0]"
    ∷ codes "      Failed TaskGroup h[0].a"
    ∷ codes "        Succeeded Pod h[0].a(0:u)"
    ∷ codes "          Succeeded Steps h[0].a(0:u).onExit"
    ∷ codes "        Failed Pod h[0].a(1:v)"
    ∷ codes "          Succeeded Steps h[0].a(1:v).onExit"
    ∷ []
unfolding digits serde_json_on_literals
a_hook_for_each_item = refl

-- ---- a hook's phase changes no other

-- the step has no result, so its hook is Error; all else is Succeeded
pub an_unresolved_tag_in_a_hook : printed
    (one_step (codes "h") (with_hook (codes "a") (codes "{{steps.a.outputs.result}}")) (echo ∷ []))
    (Started ∷ settled (Group 0 ∷ Step 0 ∷ []) succeeded ∷ [])
    ≡ codes "workflow h Succeeded"
    ∷ codes "  Succeeded Steps h"
    ∷ codes "    Succeeded StepGroup h[0]"
    ∷ codes "      Succeeded Pod h[0].a"
    ∷ codes "        Error Steps h[0].a.onExit -- unresolved steps.a.outputs.result"
    ∷ []
unfolding digits
an_unresolved_tag_in_a_hook = refl

-- but nothing behind its step goes on before it is finished
pub a_hook_is_waited_for : printed
    (workflow (codes "h")
    (body.Steps
    ((record (call (codes "a")) { exit = Some (hook_with (codes "c") []) } ∷ []) ∷ (call (codes "b") ∷ []) ∷ [])))
    (Started ∷ settled (Group 0 ∷ Step 0 ∷ []) succeeded ∷ [])
    ≡ codes "workflow h Running"
    ∷ codes "  Running Steps h"
    ∷ codes "    Running StepGroup h[0]"
    ∷ codes "      Succeeded Pod h[0].a"
    ∷ codes "        Running Pod h[0].a.onExit"
    ∷ []
unfolding digits
a_hook_is_waited_for = refl

-- ---- behind which nodes a hook runs

-- a step of a template, with a container as its exit hook
abbrev c_behind : List ℕ → List Template → Manifest
c_behind template ts =
    one_step (codes "h") (record (call_with (codes "a") template []) { exit = Some (hook_with (codes "c") []) }) ts

-- a memoized container whose key has a value below the exit handler alone
abbrev keyed_by_status : Template
keyed_by_status = record (template (codes "m") body.Pod) {
  memoize = Some (record { key = parts_of (codes "{{workflow.status}}"); max_age = None; cache = codes "mc" });
}

-- an unresolved memoization key is an Error of the template's node, behind which the hook runs
pub behind_an_unresolved_key : printed (c_behind (codes "m") (keyed_by_status ∷ [])) (Started ∷ [])
    ≡ codes "workflow h Running"
    ∷ codes "  Running Steps h"
    ∷ codes "    Running StepGroup h[0]"
    ∷ codes "      Error Pod h[0].a -- unresolved workflow.status"
    ∷ codes "        Running Pod h[0].a.onExit"
    ∷ []
unfolding digits
behind_an_unresolved_key = refl

-- nothing is looked up then: the hook's pod alone is asked for
pub no_look_up : wants (c_behind (codes "m") (keyed_by_status ∷ [])) (Started ∷ [])
    ≡ want.Pod (path (Main ∷ Group 0 ∷ Step 0 ∷ Exit ∷ [])) ∷ []
unfolding digits
no_look_up = refl

-- so is a missing output
pub behind_a_missing_output : printed
    (c_behind (codes "t") (record (template (codes "t") body.Pod) { outputs = declared (codes "q") None ∷ [] } ∷ []))
    (Started ∷ settled (Group 0 ∷ Step 0 ∷ []) succeeded ∷ settled (Group 0 ∷ Step 0 ∷ Exit ∷ []) succeeded ∷ [])
    ≡ codes "workflow h Error"
    ∷ codes "  Error Steps h"
    ∷ codes "    Error StepGroup h[0]"
    ∷ codes "      Error Pod h[0].a -- missing output q"
    ∷ codes "        Succeeded Pod h[0].a.onExit"
    ∷ []
unfolding digits
behind_a_missing_output = refl

-- so is a bad duration
pub behind_a_bad_duration : printed
    (c_behind (codes "s") (template (codes "s") (body.Suspend (Some (parts_of (codes "5x")))) ∷ [])) (Started ∷ [])
    ≡ codes "workflow h Running"
    ∷ codes "  Running Steps h"
    ∷ codes "    Running StepGroup h[0]"
    ∷ codes "      Error Suspend h[0].a -- bad duration"
    ∷ codes "        Running Pod h[0].a.onExit"
    ∷ []
unfolding digits
behind_a_bad_duration = refl

-- a memoized container
abbrev memoized : Template
memoized = record (template (codes "m") body.Pod) {
  memoize = Some (record { key = parts_of (codes "k"); max_age = None; cache = codes "mc" });
}

-- behind a hit the hook runs too
pub behind_a_hit : printed (c_behind (codes "m") (memoized ∷ []))
    (Started ∷ Memo (path (Main ∷ Group 0 ∷ Step 0 ∷ [])) (Some no_outputs) ∷ [])
    ≡ codes "workflow h Running"
    ∷ codes "  Running Steps h"
    ∷ codes "    Running StepGroup h[0]"
    ∷ codes "      Succeeded Pod h[0].a -- hit mc k"
    ∷ codes "        Running Pod h[0].a.onExit"
    ∷ []
unfolding digits
behind_a_hit = refl

-- a node that missed is saved where it stands: before what its hook asks for
pub a_save_before_the_hook : wants (c_behind (codes "m") (memoized ∷ []))
    (Started ∷ Memo (path (Main ∷ Group 0 ∷ Step 0 ∷ [])) None ∷ settled (Group 0 ∷ Step 0 ∷ []) succeeded ∷ [])
    ≡ want.Save (path (Main ∷ Group 0 ∷ Step 0 ∷ [])) (codes "mc") (codes "k") no_outputs
    ∷ want.Pod (path (Main ∷ Group 0 ∷ Step 0 ∷ Exit ∷ []))
    ∷ []
unfolding digits
a_save_before_the_hook = refl

-- an argument without a value is an Error of the call, behind which no hook runs
pub not_behind_an_unresolved_argument : printed
    (one_step (codes "h")
    (record (call_echo (codes "a") (codes "{{workflow.status}}")) { exit = Some (hook_with (codes "c") []) })
    (echo ∷ []))
    (Started ∷ [])
    ≡ codes "workflow h Error"
    ∷ codes "  Error Steps h"
    ∷ codes "    Error StepGroup h[0]"
    ∷ codes "      Error Steps h[0].a -- unresolved workflow.status"
    ∷ []
unfolding digits
not_behind_an_unresolved_argument = refl

-- nor behind a step that is skipped
pub not_behind_a_skipped_step : printed
    (one_step (codes "h")
    (record (call (codes "a")) { when = Some (parts_of (codes "1 == 2")); exit = Some (hook_with (codes "c") []) }) [])
    (Started ∷ [])
    ≡ codes "workflow h Succeeded"
    ∷ codes "  Succeeded Steps h"
    ∷ codes "    Succeeded StepGroup h[0]"
    ∷ codes "      Skipped Skipped h[0].a -- when is false"
    ∷ []
unfolding digits
not_behind_a_skipped_step = refl

-- ---- `workflow.status` below the exit handler

-- a container, and an exit handler whose step gives echo the phase of the entrypoint
abbrev telling : Manifest
telling =
    record (workflow_of (codes "w")
    (template (codes "main") body.Pod
    ∷ template (codes "tell") (body.Steps ((call_echo (codes "a") (codes "{{workflow.status}}") ∷ []) ∷ []))
    ∷ echo ∷ []))
    { on_exit = Some (codes "tell") }

-- below the exit handler the tag is Succeeded where the entrypoint is
pub it_tells_a_success : params_at (codes "w.onExit[0].a") telling (Started ∷ settled [] succeeded ∷ [])
    ≡ param (codes "x") (codes "Succeeded") ∷ []
unfolding digits
it_tells_a_success = refl

-- and Failed where that is Failed
pub it_tells_a_failure : params_at (codes "w.onExit[0].a") telling (Started ∷ settled [] failed ∷ [])
    ≡ param (codes "x") (codes "Failed") ∷ []
unfolding digits
it_tells_a_failure = refl

-- an exit handler with a memoization key that uses the tag
abbrev keyed_handler : Manifest
keyed_handler =
    record (workflow_of (codes "w") (template (codes "main") body.Pod ∷ keyed_by_status ∷ [])) {
      on_exit = Some (codes "m");
    }

-- there the key has a value, with which its cache is asked
pub a_key_of_the_exit_handler : wants keyed_handler (Started ∷ settled [] errored ∷ [])
    ≡ want.LookUp (path (Exit ∷ [])) (codes "mc") (codes "Error") None ∷ []
unfolding digits
a_key_of_the_exit_handler = refl

-- the workflow is Running until its exit handler is finished too
pub the_exit_handler_runs : printed (record (workflow (codes "x") body.Pod) { on_exit = Some (codes "c") })
    (Started ∷ settled [] succeeded ∷ [])
    ≡ codes "workflow x Running" ∷ codes "  Succeeded Pod x" ∷ codes "  Running Pod x.onExit" ∷ []
unfolding digits
the_exit_handler_runs = refl

-- and it runs behind the entrypoint alone: not while that runs
pub no_exit_handler_yet : printed (record (workflow (codes "x") body.Pod) { on_exit = Some (codes "c") }) (Started ∷ [])
    ≡ codes "workflow x Running" ∷ codes "  Running Pod x" ∷ []
unfolding digits
no_exit_handler_yet = refl

-- an exit handler that succeeds leaves the workflow its entrypoint's phase
pub the_entrypoints_phase_stays : printed telling (Started ∷ settled [] failed ∷ [])
    ≡ codes "workflow w Failed"
    ∷ codes "  Failed Pod w"
    ∷ codes "  Succeeded Steps w.onExit"
    ∷ codes "    Succeeded StepGroup w.onExit[0]"
    ∷ codes "      Succeeded Steps w.onExit[0].a"
    ∷ []
unfolding digits
the_entrypoints_phase_stays = refl
