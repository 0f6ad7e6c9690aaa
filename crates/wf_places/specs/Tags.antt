-- Which tags may stand in a text, and what they may name (Argo, "Workflow variables"). Where that is not said there it is
-- this project's own.
use Rattle.std.specs.Prelude.{ℕ, List, [], ◌∷◌, ◌++◌, map, take, Bool, true, false, not, ◌||◌, Option, Some, None, bytes_eq, nat_le}
use Rattle.std.specs.List.{find}
use Rattle.base_types.specs.Names.{is_among}
use Rattle.json_fields.specs.Paths.{Path}
use Rattle.field_kinds.specs.Rules as rules
use Rattle.tag_text.specs.declared.part.Part.{Part}
use Rattle.tag_text.specs.declared.part.Part.TheVariants.{Plain, Tag}
use Rattle.tag_names.specs.Tags.{Field, parameter, TagName, workflow_name, workflow_status, workflow_parameter, input_parameter, step, task, item, item_key, unknown, named}
use Rattle.wf_manifest.specs.declared.calls.Call.{Call}
use Rattle.wf_manifest.specs.declared.calls.Task.{Task}
use Rattle.wf_manifest.specs.declared.templates.Template.{Template}
use Rattle.wf_places.specs.declared.place.Place.{Place}
use Rattle.wf_places.specs.Broken.{broken}
use Rattle.wf_places.specs.Circles.{is_ancestor, has_circle}

-- ---- which tags may stand in a text: those that need no more than it reaches

abbrev pub only_name : ℕ
only_name = 0

abbrev pub of_workflow : ℕ
of_workflow = 1

abbrev pub of_inputs : ℕ
of_inputs = 2

abbrev pub of_calls : ℕ
of_calls = 3

abbrev pub of_items : ℕ
of_items = 4

-- an unknown tag may stand nowhere
abbrev pub nowhere : ℕ
nowhere = 5

abbrev pub needs : TagName → ℕ
needs workflow_name = only_name
needs workflow_status = of_workflow
needs (workflow_parameter name) = of_workflow
needs (input_parameter name) = of_inputs
needs (step name field) = of_calls
needs (task name field) = of_calls
needs item = of_items
needs (item_key key) = of_items
needs unknown = nowhere

-- ---- what stands around a text

-- Which steps or tasks stand before it: all of the template, the first so many steps, or the ancestors of a task. Where tasks
-- wait for each other in a circle that is what is refused, and ancestors are not asked.
pub data Before : Type 0 where
  all : Before
  first : ℕ → Before
  ancestors : List Task → List ℕ → Before

pub record Around : Type 0 where
  pub reach : ℕ
  -- the names of the workflow's arguments, and of the template's inputs
  pub arguments : List (List ℕ)
  pub inputs : List (List ℕ)
  pub templates : List Template
  -- the template's steps, or its tasks
  pub steps : List Call
  pub tasks : List Call
  pub before : Before
  -- the step or task whose exit hook the text belongs to
  pub own : Option (List ℕ)

abbrev pub call_names : List Call → List (List ℕ)
call_names cs = map (λ c. c.name) cs

abbrev pub named_template : List Template → List ℕ → Option Template
named_template ts name = find (λ t. bytes_eq t.name name) ts

-- ---- what a tag may name

-- the step or task is there
abbrev pub is_there : Around → TagName → Bool
is_there a (step name field) = is_among (call_names a.steps) name
is_there a (task name field) = is_among (call_names a.tasks) name
is_there a _ = true

abbrev pub is_allowed : Around → TagName → Bool
is_allowed a tag = nat_le (needs tag) a.reach

abbrev pub has_output : Option Template → List ℕ → Bool
has_output None name = false
has_output (Some t) name = is_among (map (λ o. o.name) t.outputs) name

abbrev pub call_has_output : List Template → Option Call → List ℕ → Bool
call_has_output ts None name = false
call_has_output ts (Some c) name = has_output (named_template ts c.template) name

abbrev pub has_field : List Template → List Call → List ℕ → Field → Bool
has_field ts cs name (parameter output) = call_has_output ts (find (λ c. bytes_eq c.name name) cs) output
has_field ts cs name _ = true

-- the parameter is declared: by the workflow, by the template's inputs, or by the outputs of what is called
abbrev pub is_declared : Around → TagName → Bool
is_declared a (workflow_parameter name) = is_among a.arguments name
is_declared a (input_parameter name) = is_among a.inputs name
is_declared a (step name field) = has_field a.templates a.steps name field
is_declared a (task name field) = has_field a.templates a.tasks name field
is_declared a _ = true

abbrev pub stands_before : List Call → Before → List ℕ → Bool
stands_before steps all name = true
stands_before steps (first k) name = is_among (take k (call_names steps)) name
stands_before steps (ancestors tasks waiting) name = has_circle tasks || is_ancestor tasks name waiting

abbrev pub is_own : Option (List ℕ) → List ℕ → Bool
is_own None name = false
is_own (Some own) name = bytes_eq own name

abbrev pub call_before : Around → List ℕ → Bool
call_before a name = is_own a.own name || stands_before a.steps a.before name

-- the step is of an earlier group, the task is an ancestor; an exit hook may name what it belongs to
abbrev pub is_before : Around → TagName → Bool
is_before a (step name field) = call_before a name
is_before a (task name field) = call_before a name
is_before a _ = true

-- ---- texts with tags

abbrev pub tag_places : Around → Path → TagName → List Place
tag_places a path tag =
    broken rules.unknown_name (not (is_there a tag)) path
    ++ broken rules.misplaced_tag (not (is_allowed a tag)) path
    ++ broken rules.unknown_parameter (not (is_declared a tag)) path
    ++ broken rules.not_ancestor (not (is_before a tag)) path

abbrev pub text_places : Around → Path → List Part → List Place
text_places a path [] = []
text_places a path (Plain text ∷ parts) = text_places a path parts
text_places a path (Tag text ∷ parts) = tag_places a path (named text) ++ text_places a path parts

abbrev pub text_if_there : Around → Path → Option (List Part) → List Place
text_if_there a path None = []
text_if_there a path (Some text) = text_places a path text
