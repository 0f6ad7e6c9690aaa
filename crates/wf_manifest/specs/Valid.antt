-- What a checked manifest keeps: a named fact for each rule that it was asked. The checker refuses a manifest where one of
-- them fails, and the meaning, the evaluator and the laws rest on them. What a tag may name is not among them. Where no
-- document is cited the rule is this project's own.
use Rattle.std.specs.Prelude.{ℕ, ◌<◌, List, [], ◌∷◌, ◌++◌, Bool, true, not, ◌&&◌, ◌||◌, Option, Some, None, is_some, is_none, IsTrue, nat_le, length, map, bytes_eq, All}
use Rattle.std.specs.List.{list_all, list_any, find, flat_map}
use Rattle.base_types.specs.Bytes.{is_name}
use Rattle.base_types.specs.Limits.{most_members, most_retries}
use Rattle.base_types.specs.Names.{is_among, all_differ}
use Rattle.node_names.specs.Names.{is_step_name}
use Rattle.depends_expr.specs.Expression.{Expression}
use Rattle.depends_expr.specs.Truth.{named}
use Rattle.wf_manifest.specs.declared.calls.Argument.{Argument}
use Rattle.wf_manifest.specs.declared.calls.Hook.{Hook}
use Rattle.wf_manifest.specs.declared.calls.Call.{Call}
use Rattle.wf_manifest.specs.declared.calls.Task.{Task}
use Rattle.wf_manifest.specs.declared.calls.Dag.{Dag}
use Rattle.wf_manifest.specs.declared.templates.Input.{Input}
use Rattle.wf_manifest.specs.declared.templates.Retry.{Retry}
use Rattle.wf_manifest.specs.declared.templates.Body.{Body}
use Rattle.wf_manifest.specs.declared.templates.Body.TheVariants as body
use Rattle.wf_manifest.specs.declared.templates.Template.{Template}
use Rattle.wf_manifest.specs.declared.manifest.Manifest.{Manifest}

-- ---- what a manifest says

-- the first template of this name (Argo, "Template Types")
abbrev pub template_named : Manifest → List ℕ → Option Template
template_named m name = find (λ t. bytes_eq t.name name) m.templates

abbrev pub has_template : Manifest → List ℕ → Bool
has_template m name = is_some (template_named m name)

abbrev pub template_names : List Template → List (List ℕ)
template_names ts = map (λ t. t.name) ts

-- the steps of the groups, one group after the other
abbrev pub calls_in : List (List Call) → List Call
calls_in [] = []
calls_in (group ∷ groups) = group ++ calls_in groups

-- the steps or tasks of a body, in order
abbrev pub calls_of : Body → List Call
calls_of body.Pod = []
calls_of (body.Steps groups) = calls_in groups
calls_of (body.Dag dag) = map (λ t. t.call) dag.tasks
calls_of (body.Suspend duration) = []

abbrev pub argument_names : List Argument → List (List ℕ)
argument_names given = map (λ a. a.name) given

abbrev pub hook_lists : Option Hook → List (List (List ℕ))
hook_lists None = []
hook_lists (Some hook) = argument_names hook.arguments ∷ []

abbrev pub call_lists : Call → List (List (List ℕ))
call_lists c = argument_names c.arguments ∷ hook_lists c.exit

abbrev pub template_lists : Template → List (List (List ℕ))
template_lists t = map (λ i. i.name) t.inputs ∷ map (λ o. o.name) t.outputs ∷ flat_map call_lists (calls_of t.body)

-- the names in each list of parameters
abbrev pub parameter_lists : Manifest → List (List (List ℕ))
parameter_lists m = argument_names m.arguments ∷ flat_map template_lists m.templates

-- ---- names

-- no two templates have one name (Argo, "Template Types")
abbrev pub templates_differ : Manifest → Bool
templates_differ m = all_differ (template_names m.templates)

-- no two steps or tasks of a template have one name (field reference, `WorkflowStep` and `DAGTask`)
abbrev pub steps_differ : Template → Bool
steps_differ t = all_differ (map (λ c. c.name) (calls_of t.body))

-- the names of its steps and tasks are of their grammar
abbrev pub has_step_names : Template → Bool
has_step_names t = list_all (λ c. is_step_name c.name) (calls_of t.body)

-- no two parameters of a list have one name (Argo, "Parameters")
abbrev pub parameters_differ : Manifest → Bool
parameters_differ m = list_all all_differ (parameter_lists m)

-- the names of parameters are of their grammar
abbrev pub has_parameter_names : Manifest → Bool
has_parameter_names m = list_all (list_all is_name) (parameter_lists m)

-- ---- calls (Argo, "Template Types", "Steps" and "Exit handlers")

abbrev pub has_named : Manifest → Option (List ℕ) → Bool
has_named m None = true
has_named m (Some name) = has_template m name

abbrev pub hook_is_there : Manifest → Option Hook → Bool
hook_is_there m None = true
hook_is_there m (Some hook) = has_template m hook.template

-- a step or task, and its exit hook, call templates that are there
abbrev pub call_is_there : Manifest → Call → Bool
call_is_there m c = has_template m c.template && hook_is_there m c.exit

abbrev pub calls_are_there : Manifest → Template → Bool
calls_are_there m t = list_all (call_is_there m) (calls_of t.body)

-- so do the workflow itself and its exit handler
abbrev pub entry_is_there : Manifest → Bool
entry_is_there m = has_template m m.entrypoint && has_named m m.on_exit

-- ---- lists

abbrev pub is_short : {A : Type 0} → List A → Bool
is_short xs = nat_le (length xs) most_members

abbrev pub body_is_short : Body → Bool
body_is_short body.Pod = true
body_is_short (body.Steps groups) = is_short groups && list_all is_short groups
body_is_short (body.Dag dag) = is_short dag.tasks
body_is_short (body.Suspend duration) = true

-- the templates, the groups of a template, the steps of a group and the tasks of a DAG are within their limit
abbrev pub lists_are_short : Manifest → Bool
lists_are_short m = is_short m.templates && list_all (λ t. body_is_short t.body) m.templates

-- and so are the lists of parameters
abbrev pub parameters_are_short : Manifest → Bool
parameters_are_short m = list_all is_short (parameter_lists m)

-- ---- retries (field reference, `RetryStrategy.limit`)

abbrev pub limit_fits : Option ℕ → Bool
limit_fits None = true
limit_fits (Some limit) = nat_le limit most_retries

abbrev pub retry_fits : Option Retry → Bool
retry_fits None = true
retry_fits (Some r) = limit_fits r.limit

-- the retries that a template's limit allows are within their number
abbrev pub retries_fit : Manifest → Bool
retries_fit m = list_all (λ t. retry_fits t.retry) m.templates

-- ---- inputs (Argo, "Parameters")

-- an input has the argument of its name, a value or a default
abbrev pub has_value : List Argument → Input → Bool
has_value given i = is_among (argument_names given) i.name || is_some i.value || is_some i.default

abbrev pub gives_values : Option Template → List Argument → Bool
gives_values None given = true
gives_values (Some t) given = list_all (has_value given) t.inputs

abbrev pub hook_gives_values : Manifest → Option Hook → Bool
hook_gives_values m None = true
hook_gives_values m (Some hook) = gives_values (template_named m hook.template) hook.arguments

-- each input of what a step or task calls gets a value, and so does each of its exit hook
abbrev pub call_gives_values : Manifest → Call → Bool
call_gives_values m c = gives_values (template_named m c.template) c.arguments && hook_gives_values m c.exit

abbrev pub calls_give_values : Manifest → Template → Bool
calls_give_values m t = list_all (call_gives_values m) (calls_of t.body)

abbrev pub named_gives_values : Manifest → Option (List ℕ) → Bool
named_gives_values m None = true
named_gives_values m (Some name) = gives_values (template_named m name) m.arguments

-- the entrypoint and the exit handler take the workflow's arguments
abbrev pub entry_gives_values : Manifest → Bool
entry_gives_values m = named_gives_values m (Some m.entrypoint) && named_gives_values m m.on_exit

-- ---- DAGs (Argo, "DAG" and "Enhanced depends logic")

abbrev pub names_in : Option Expression → Option (List (List ℕ)) → List (List ℕ)
names_in (Some depends) dependencies = named depends
names_in None (Some dependencies) = dependencies
names_in None None = []

-- the tasks that a task names in its `depends`, else in its `dependencies`
abbrev pub waits_for : Task → List (List ℕ)
waits_for t = names_in t.depends t.dependencies

abbrev pub task_names : Dag → List (List ℕ)
task_names dag = map (λ t. t.call.name) dag.tasks

-- the targets and the tasks that a task waits for are tasks of the DAG
abbrev pub tasks_are_there : Body → Bool
tasks_are_there (body.Dag dag) =
    list_all (is_among (task_names dag)) dag.targets
    && list_all (λ t. list_all (is_among (task_names dag)) (waits_for t)) dag.tasks
tasks_are_there _ = true

-- a task that may stand beside one with `depends`
abbrev pub fits_depends : Task → Bool
fits_depends t = is_none t.dependencies && is_none t.call.continue_on

-- where a task of a DAG has `depends`, none has `dependencies` or `continueOn`
abbrev pub is_of_one_spelling : Body → Bool
is_of_one_spelling (body.Dag dag) =
    not (list_any (λ t. is_some t.depends) dag.tasks) || list_all fits_depends dag.tasks
is_of_one_spelling _ = true

-- each task stands higher than those that it waits for, so that none waits for itself
pub record HasRank (tasks : List Task) : Type 0 where
  pub rank : List ℕ → ℕ
  pub higher :
      All (λ t. All (λ name. rank name < rank t.call.name) (waits_for t)) tasks

abbrev pub HasNoCircle : Body → Type 0
HasNoCircle body.Pod = Unit {0}
HasNoCircle (body.Steps groups) = Unit {0}
HasNoCircle (body.Dag dag) = HasRank dag.tasks
HasNoCircle (body.Suspend duration) = Unit {0}

-- ---- all of them

pub record Valid (m : Manifest) : Type 0 where
  pub templates_differ : IsTrue (templates_differ m)
  pub steps_differ : IsTrue (list_all steps_differ m.templates)
  pub step_names : IsTrue (list_all has_step_names m.templates)
  pub parameters_differ : IsTrue (parameters_differ m)
  pub parameter_names : IsTrue (has_parameter_names m)
  pub calls : IsTrue (list_all (calls_are_there m) m.templates)
  pub entry : IsTrue (entry_is_there m)
  pub short : IsTrue (lists_are_short m)
  pub short_parameters : IsTrue (parameters_are_short m)
  pub retries : IsTrue (retries_fit m)
  pub values : IsTrue (list_all (calls_give_values m) m.templates)
  pub entry_values : IsTrue (entry_gives_values m)
  pub tasks : IsTrue (list_all (λ t. tasks_are_there t.body) m.templates)
  pub one_spelling : IsTrue (list_all (λ t. is_of_one_spelling t.body) m.templates)
  pub no_circle : All (λ t. HasNoCircle t.body) m.templates
