-- What the worked examples are written with: manifests, facts, and the lines of a tree.
use Rattle.std.specs.Prelude.{ℕ, List, [], ◌∷◌, ◌++◌, false, Option, Some, None, if◌then◌else◌, bytes_eq, codes, pos, refl, flat_map}
use Rattle.serde_json.specs.Data.{string, array, Items, no_items, item}
use Rattle.tree_types.specs.declared.path.Sel.{Sel}
use Rattle.tree_types.specs.declared.path.Sel.TheVariants.{Main, Task as task_sel}
use Rattle.tree_types.specs.declared.path.LockId.{LockId}
use Rattle.tree_types.specs.declared.phase.Phase.TheVariants.{Succeeded, Failed, Error}
use Rattle.tree_types.specs.declared.node.Node.{Node}
use Rattle.tree_types.specs.declared.outcome.Param.{Param}
use Rattle.tree_types.specs.declared.outcome.Outcome.{Outcome}
use Rattle.tree_types.specs.declared.fact.Fact.{Fact}
use Rattle.tree_types.specs.declared.fact.Fact.TheVariants.{Settled, Begun}
use Rattle.tree_types.specs.Texts.{tree_lines}
use Rattle.tag_text.specs.Parts.{parts_of}
use Rattle.depends_expr.specs.Expression.{Expression}
use Rattle.wf_manifest.specs.declared.calls.Argument.{Argument}
use Rattle.wf_manifest.specs.declared.calls.Loop.{Loop}
use Rattle.wf_manifest.specs.declared.calls.Loop.TheVariants as each
use Rattle.wf_manifest.specs.declared.calls.Hook.{Hook}
use Rattle.wf_manifest.specs.declared.calls.Call.{Call}
use Rattle.wf_manifest.specs.declared.calls.Task.{Task}
use Rattle.wf_manifest.specs.declared.calls.Dag.{Dag}
use Rattle.wf_manifest.specs.declared.templates.Input.{Input}
use Rattle.wf_manifest.specs.declared.templates.OutputDecl.{OutputDecl}
use Rattle.wf_manifest.specs.declared.templates.Body.{Body}
use Rattle.wf_manifest.specs.declared.templates.Body.TheVariants as body
use Rattle.wf_manifest.specs.declared.templates.Template.{Template}
use Rattle.wf_manifest.specs.declared.manifest.Manifest.{Manifest}
use Rattle.meaning.specs.Answers.{path, answers}
use Rattle.meaning.specs.Trees.{tree, phase}

-- ---- manifests

abbrev pub template : List ℕ → Body → Template
template name b =
    record { name = name; inputs = []; outputs = []; lock = None; memoize = None; retry = None; body = b }

abbrev pub container : Template
container = template (codes "c") body.Pod

abbrev pub workflow_of : List ℕ → List Template → Manifest
workflow_of name ts = record {
  name = name;
  namespace = codes "default";
  created = pos 0;
  priority = pos 0;
  entrypoint = codes "main";
  on_exit = None;
  arguments = [];
  lock = None;
  templates = ts;
}

-- a workflow of a main body, and a container c
abbrev pub workflow : List ℕ → Body → Manifest
workflow name b = workflow_of name (template (codes "main") b ∷ container ∷ [])

-- ---- calls

-- a call of a template with arguments
abbrev pub call_with : List ℕ → List ℕ → List Argument → Call
call_with name template arguments = record {
  name = name;
  template = template;
  arguments = arguments;
  when = None;
  each = None;
  continue_on = None;
  exit = None;
}

-- a call of c
abbrev pub call : List ℕ → Call
call name = call_with name (codes "c") []

abbrev pub call_when : List ℕ → List ℕ → Call
call_when name w = record (call name) { when = Some (parts_of w) }

abbrev pub call_each : List ℕ → Loop → Call
call_each name l = record (call name) { each = Some l }

-- a loop over texts
abbrev pub text_items : List (List ℕ) → Items
text_items [] = no_items
text_items (t ∷ ts) = item (string t) (text_items ts)

abbrev pub over : List (List ℕ) → Loop
over ts = each.Items (array (text_items ts))

abbrev pub hook_with : List ℕ → List Argument → Hook
hook_with template arguments = record { template = template; arguments = arguments; short = false }

abbrev pub task : Call → Task
task c = record { call = c; depends = None; dependencies = None }

abbrev pub task_if : Call → Expression → Task
task_if c e = record (task c) { depends = Some e }

abbrev pub task_after : List ℕ → List (List ℕ) → Task
task_after n ns = record (task (call n)) { dependencies = Some ns }

-- a workflow whose main has one group of one step, beside these templates
abbrev pub one_step : List ℕ → Call → List Template → Manifest
one_step name c ts = workflow_of name (template (codes "main") (body.Steps ((c ∷ []) ∷ [])) ∷ container ∷ ts)

-- a workflow whose main is a DAG without `failFast`, beside these templates
abbrev pub dag_workflow : List ℕ → List Task → List Template → Manifest
dag_workflow name tasks ts =
    let d : Dag = record { targets = []; fail_fast = false; tasks = tasks } in
    workflow_of name (template (codes "main") (body.Dag d) ∷ container ∷ ts)

-- ---- arguments, inputs and outputs

abbrev pub argument : List ℕ → List ℕ → Argument
argument name text = record { name = name; value = parts_of text }

abbrev pub input : List ℕ → Input
input name = record { name = name; value = None; default = None }

-- a declared output of a file of the pod, or of a suspended node
abbrev pub declared : List ℕ → Option (List ℕ) → OutputDecl
declared name default = record { name = name; path = None; from = None; default = default }

-- a declared output of `valueFrom.parameter`
abbrev pub declared_from : List ℕ → List ℕ → OutputDecl
declared_from name text = record (declared name None) { from = Some (parts_of text) }

abbrev pub param : List ℕ → List ℕ → Param
param name value = record { name = name; value = value }

-- a template of no steps that takes x: its output says what it was given
abbrev pub echo : Template
echo = record (template (codes "e") (body.Steps [])) {
  inputs = input (codes "x") ∷ [];
  outputs = declared_from (codes "x") (codes "{{inputs.parameters.x}}") ∷ [];
}

-- a call of echo that gives it this text
abbrev pub call_echo : List ℕ → List ℕ → Call
call_echo name text = call_with name (codes "e") (argument (codes "x") text ∷ [])

abbrev pub mutex : List ℕ → LockId
mutex name = record { text = codes "mutex/" ++ name }

-- ---- facts

abbrev pub succeeded : Outcome
succeeded = record {
  phase = Succeeded;
  result = None;
  params = [];
  transient = false;
  begin = 0;
  finish = 0;
  ended = refl;
}

abbrev pub failed : Outcome
failed = record {
  phase = Failed;
  result = None;
  params = [];
  transient = false;
  begin = 0;
  finish = 0;
  ended = refl;
}

abbrev pub errored : Outcome
errored = record {
  phase = Error;
  result = None;
  params = [];
  transient = false;
  begin = 0;
  finish = 0;
  ended = refl;
}

abbrev pub settled : List Sel → Outcome → Fact
settled p o = Settled (path (Main ∷ p)) o

abbrev pub begun : ℕ → Fact
begun i = Begun (path (Main ∷ task_sel i ∷ []))

-- ---- the printed lines of a workflow and its tree

abbrev pub printed : Manifest → List Fact → List (List ℕ)
printed m J = tree_lines m.name (phase m (answers J)) (tree m J)

-- the output parameters of the node of a name
abbrev pub params_at : List ℕ → Manifest → List Fact → List Param
params_at name m J = flat_map (λ (n : Node). if bytes_eq n.name name then n.outputs.params else []) (tree m J)
