-- What calls of templates read as: each object is a list of lines in reading order, its refused fields first. The
-- fields are those of the field reference; which of them are refused, and by which refusal, is this project's own.
use Rattle.std.specs.Prelude.{ℕ, List, [], ◌∷◌, Bool, true, false, ◌&&◌, ◌||◌, if◌then◌else◌, is_some, Option, Some, None, Ok, codes}
use Rattle.serde_json.specs.Data.{Data, null, string}
use Rattle.serde_json.specs.Find.{get}
use Rattle.base_types.specs.Limits.{most_members}
use Rattle.tag_text.specs.declared.part.Part.{Part}
use Rattle.depends_expr.specs.Meaning.{depends_of}
use Rattle.json_fields.specs.Paths.{field_of}
use Rattle.wf_manifest.specs.declared.calls.Argument.{Argument}
use Rattle.wf_manifest.specs.declared.calls.Loop.{Loop}
use Rattle.wf_manifest.specs.declared.calls.Loop.TheVariants as loop
use Rattle.wf_manifest.specs.declared.calls.ContinueOn.{ContinueOn}
use Rattle.wf_manifest.specs.declared.calls.Hook.{Hook}
use Rattle.wf_manifest.specs.declared.calls.Call.{Call}
use Rattle.wf_manifest.specs.declared.calls.Task.{Task}
use Rattle.wf_manifest.specs.declared.calls.Dag.{Dag}
use Rattle.field_kinds.specs.Reading.{◌>>=◌, Kind, refuse_by}
use Rattle.field_kinds.specs.Rules as rules
use Rattle.field_kinds.specs.Kinds.{text, any_text, flag, of, object_of, list_of, all_of}
use Rattle.field_kinds.specs.Fields.{optional, required, default, default_list, written_text, written_of, refused_all, refused_but, has, no_second, missing_unless, unsupported_if}
use Rattle.call_reader.specs.declared.hooks.Hooks.{Hooks}
use Rattle.call_reader.specs.declared.steps.CallHead.{CallHead}
use Rattle.call_reader.specs.declared.steps.CallTail.{CallTail}
use Rattle.call_reader.specs.Tags.{tags, tagged, loop_items}
use Rattle.call_reader.specs.Words.{task_names}

-- ---- arguments (field reference, `Arguments` and `Parameter`)

unfoldable pub argument_fields : Kind Argument
argument_fields at d = do
  _ ← refused_all (codes "valueFrom" ∷ []) at d
  name ← required text (codes "name") at d
  value ← required (tagged any_text) (codes "value") at d
  Ok (record { name = name; value = value })

unfoldable pub arguments_fields : Kind (List Argument)
arguments_fields at d = do
  _ ← refused_all (codes "artifacts" ∷ []) at d
  default_list most_members (object_of argument_fields) (codes "parameters") at d

-- the field `arguments` of a workflow, a step, a task or a hook
abbrev pub arguments : Kind (List Argument)
arguments = default [] (object_of arguments_fields) (codes "arguments")

-- ---- loops (field reference, `withItems`, `withParam` and `Sequence`)

-- `count` or `end` must be there, and not both
unfoldable pub sequence_fields : Kind Loop
sequence_fields at d = do
  _ ← missing_unless (has (codes "count") d || has (codes "end") d) (field_of at (codes "count"))
  count ← optional (tagged any_text) (codes "count") at d
  start ← optional (tagged any_text) (codes "start") at d
  _ ← no_second (is_some count) (codes "end") at d
  end ← optional (tagged any_text) (codes "end") at d
  format ← optional (tagged any_text) (codes "format") at d
  Ok (loop.Sequence count start end format)

-- neither absent nor null nor an empty text
abbrev pub is_written : Option Data → Bool
is_written None = false
is_written (Some null) = false
is_written (Some (string [])) = false
is_written (Some d) = true

-- a field that stands beside another is refused, unless it is an empty text
abbrev pub no_second_text : Bool → List ℕ → Kind (Unit {0})
no_second_text there name at d =
    if there && is_written (get name d) then refuse_by rules.unsupported (field_of at name) else Ok tt

abbrev pub listed : Option Data → Option (List Part) → Option Loop
listed (Some items) _ = Some (loop.Items items)
listed None (Some param) = Some (loop.Param param)
listed None None = None

-- a loop over a list, which is given as it stands or as a text
unfoldable pub list_loop : Kind (Option Loop)
list_loop at d = do
  items ← optional loop_items (codes "withItems") at d
  _ ← no_second_text (is_some items) (codes "withParam") at d
  param ← written_of tags (codes "withParam") at d
  Ok (listed items param)

abbrev pub or_loop : Option Loop → Option Loop → Option Loop
or_loop (Some found) _ = Some found
or_loop None other = other

-- the loop of a step or task; a second one is refused
unfoldable pub loop_said : Kind (Option Loop)
loop_said at d = do
  over_list ← list_loop at d
  _ ← no_second (is_some over_list) (codes "withSequence") at d
  over_numbers ← optional (object_of sequence_fields) (codes "withSequence") at d
  Ok (or_loop over_list over_numbers)

-- ---- exit hooks (field reference, `LifecycleHook`)

unfoldable pub hook_fields : Kind Hook
hook_fields at d = do
  _ ← refused_all (codes "templateRef" ∷ codes "expression" ∷ []) at d
  template ← required text (codes "template") at d
  given ← arguments at d
  Ok (record { template = template; arguments = given; short = false })

-- of all hooks `exit` alone is read
unfoldable pub hooks_fields : Kind Hooks
hooks_fields at d = do
  _ ← refused_but (codes "exit") at d
  exit ← optional (object_of hook_fields) (codes "exit") at d
  Ok (record { exit = exit })

abbrev pub has_in : List ℕ → Option Data → Bool
has_in name None = false
has_in name (Some d) = has name d

abbrev pub has_exit_hook : Data → Bool
has_exit_hook d = has_in (codes "exit") (get (codes "hooks") d)

-- `onExit` is the short way to give an exit hook, where there is no other
abbrev pub hook_of : Option (List ℕ) → Option Hooks → Option Hook
hook_of (Some template) hooks = Some (record { template = template; arguments = []; short = true })
hook_of None (Some hooks) = hooks.exit
hook_of None None = None

-- the exit hook of a step or task; `onExit` beside `hooks.exit` is refused
unfoldable pub exit_hook : Kind (Option Hook)
exit_hook at d = do
  short ← written_text (codes "onExit") at d
  _ ← unsupported_if (is_some short && has_exit_hook d) (field_of at (codes "onExit"))
  hooks ← optional (object_of hooks_fields) (codes "hooks") at d
  Ok (hook_of short hooks)

-- ---- steps (field reference, `WorkflowStep`)

unfoldable pub continue_fields : Kind ContinueOn
continue_fields at d = do
  failed ← default false flag (codes "failed") at d
  error ← default false flag (codes "error") at d
  Ok (record { failed = failed; error = error })

-- the first fields of a step or task
unfoldable pub head_fields : Kind CallHead
head_fields at d = do
  _ ← refused_all (codes "templateRef" ∷ codes "inline" ∷ []) at d
  name ← required text (codes "name") at d
  template ← required text (codes "template") at d
  given ← arguments at d
  Ok (record { name = name; template = template; arguments = given })

-- and its last ones; what a task has beside a step stands between them
unfoldable pub tail_fields : Kind CallTail
tail_fields at d = do
  when ← written_of tags (codes "when") at d
  each ← loop_said at d
  continue_on ← optional (object_of continue_fields) (codes "continueOn") at d
  exit ← exit_hook at d
  Ok (record { when = when; each = each; continue_on = continue_on; exit = exit })

abbrev pub call_of : CallHead → CallTail → Call
call_of head tail = record {
  name = head.name;
  template = head.template;
  arguments = head.arguments;
  when = tail.when;
  each = tail.each;
  continue_on = tail.continue_on;
  exit = tail.exit;
}

unfoldable pub step_fields : Kind Call
step_fields at d = do
  head ← head_fields at d
  tail ← tail_fields at d
  Ok (call_of head tail)

-- steps side by side
abbrev pub group : Kind (List Call)
group = list_of most_members (object_of step_fields)

-- groups of them, one after the other
abbrev pub groups : Kind (List (List Call))
groups = list_of most_members group

-- ---- tasks and DAGs (field reference, `DAGTask` and `DAGTemplate`)

unfoldable pub task_fields : Kind Task
task_fields at d = do
  head ← head_fields at d
  dependencies ← optional (all_of text) (codes "dependencies") at d
  depends ← written_of depends_of (codes "depends") at d
  tail ← tail_fields at d
  Ok (record { call = call_of head tail; depends = depends; dependencies = dependencies })

unfoldable pub dag_fields : Kind Dag
dag_fields at d = do
  targets ← default [] (of task_names text) (codes "target") at d
  fail_fast ← default true flag (codes "failFast") at d
  tasks ← required (list_of most_members (object_of task_fields)) (codes "tasks") at d
  Ok (record { targets = targets; fail_fast = fail_fast; tasks = tasks })
