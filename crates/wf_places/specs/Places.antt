-- The places of a manifest at which a rule is broken, in reading order: the fields of each object in the order of the field
-- reference's types as this project reads them, and the members of each list in theirs. A name of a workflow, a ConfigMap, a
-- key or a time has its grammar from the reader and is not asked again.
use Rattle.std.specs.Prelude.{ℕ, suc, List, [], ◌∷◌, ◌++◌, map, take, Bool, not, ◌||◌, Option, Some, None, codes, nat_eq}
use Rattle.std.specs.List.{starts_with}
use Rattle.base_types.specs.Bytes.{is_name}
use Rattle.base_types.specs.Names.{is_among}
use Rattle.json_fields.specs.Paths.{Path, field_of, member_of}
use Rattle.field_kinds.specs.Rules as rules
use Rattle.tag_text.specs.declared.part.Part.{Part}
use Rattle.tree_types.specs.declared.path.LockId.{LockId}
use Rattle.wf_manifest.specs.declared.calls.Argument.{Argument}
use Rattle.wf_manifest.specs.declared.calls.Call.{Call}
use Rattle.wf_manifest.specs.declared.templates.Input.{Input}
use Rattle.wf_manifest.specs.declared.templates.OutputDecl.{OutputDecl}
use Rattle.wf_manifest.specs.declared.templates.Memoize.{Memoize}
use Rattle.wf_manifest.specs.declared.templates.Body.{Body}
use Rattle.wf_manifest.specs.declared.templates.Body.TheVariants as body
use Rattle.wf_manifest.specs.declared.templates.Template.{Template}
use Rattle.wf_manifest.specs.declared.manifest.Manifest.{Manifest}
use Rattle.wf_manifest.specs.Valid.{argument_names, template_names, calls_in}
use Rattle.wf_places.specs.declared.place.Place.{Place}
use Rattle.wf_places.specs.Broken.{broken, plain_places, plain_if_there, name_places}
use Rattle.wf_places.specs.Tags.{Around, all, only_name, of_workflow, of_inputs, of_calls, text_places, text_if_there}
use Rattle.wf_places.specs.Calls.{arguments_places, lacks_value, template_places, groups_places}
use Rattle.wf_places.specs.Dags.{dag_places}

-- ---- parameters of templates

-- the inputs that are left, the first of these having that position among the names
abbrev pub input_places : Around → List (List ℕ) → Path → ℕ → List Input → List Place
input_places a names at i [] = []
input_places a names at i (x ∷ xs) =
    name_places (is_among (take i names) x.name) (is_name x.name) (member_of at i)
    ++ text_if_there a (field_of (member_of at i) (codes "value")) x.value
    ++ text_if_there a (field_of (member_of at i) (codes "default")) x.default
    ++ input_places a names at (suc i) xs

-- where an output comes from
abbrev pub source_places : Around → Path → OutputDecl → List Place
source_places a at o =
    plain_if_there (field_of at (codes "valueFrom.path")) o.path
    ++ text_if_there a (field_of at (codes "valueFrom.parameter")) o.from
    ++ plain_if_there (field_of at (codes "valueFrom.default")) o.default

abbrev pub output_places : Around → List (List ℕ) → Path → ℕ → List OutputDecl → List Place
output_places a names at i [] = []
output_places a names at i (o ∷ os) =
    name_places (is_among (take i names) o.name) (is_name o.name) (member_of at i)
    ++ source_places a (member_of at i) o
    ++ output_places a names at (suc i) os

-- ---- locks

-- a mutex has a limit, and a semaphore where it is among those that have one
abbrev pub has_limit : List (List ℕ) → LockId → Bool
has_limit limited lock = starts_with nat_eq lock.text (codes "mutex/") || is_among limited lock.text

-- Only the name of a mutex can have a tag, by which the lock is written.
abbrev pub lock_place : List (List ℕ) → Path → LockId → List Place
lock_place limited at lock =
    broken rules.unknown_lock (not (has_limit limited lock)) (field_of at (codes "synchronization"))
    ++ plain_places (field_of at (codes "synchronization.mutex.name")) lock.text

abbrev pub lock_places : List (List ℕ) → Path → Option LockId → List Place
lock_places limited at None = []
lock_places limited at (Some lock) = lock_place limited at lock

-- ---- templates

abbrev pub memo_places : Around → Path → Option Memoize → List Place
memo_places a at None = []
memo_places a at (Some memo) = text_places a (field_of at (codes "memoize.key")) memo.key

abbrev pub steps_of : Body → List Call
steps_of (body.Steps groups) = calls_in groups
steps_of _ = []

abbrev pub tasks_of : Body → List Call
tasks_of (body.Dag dag) = map (λ t. t.call) dag.tasks
tasks_of _ = []

-- what stands around the texts of a template
abbrev pub inside : Around → Template → Around
inside a t = record a { inputs = map (λ x. x.name) t.inputs; steps = steps_of t.body; tasks = tasks_of t.body }

abbrev pub reaching : ℕ → Around → Around
reaching reach a = record a { reach = reach }

abbrev pub suspend_places : Around → Path → Option (List Part) → List Place
suspend_places a at duration = text_if_there a (field_of at (codes "suspend.duration")) duration

abbrev pub body_places : Around → Path → Body → List Place
body_places a at body.Pod = []
body_places a at (body.Steps groups) =
    groups_places (reaching of_calls a) (field_of at (codes "steps")) 0 0 groups
body_places a at (body.Dag dag) = dag_places (reaching of_calls a) (field_of at (codes "dag")) dag
body_places a at (body.Suspend duration) = suspend_places (reaching of_inputs a) at duration

-- the parameters of a template
abbrev pub declared_places : Around → Path → Template → List Place
declared_places a at t =
    input_places (reaching of_workflow a) a.inputs (field_of at (codes "inputs.parameters")) 0 t.inputs
    ++ output_places (reaching of_calls a) (map (λ o. o.name) t.outputs) (field_of at (codes "outputs.parameters")) 0 t.outputs

abbrev pub template_inside : List (List ℕ) → Around → Path → Template → List Place
template_inside limited a at t =
    declared_places a at t
    ++ lock_places limited at t.lock
    ++ memo_places (reaching of_inputs a) at t.memoize
    ++ body_places a at t.body

-- the templates that are left, the first of these having that position
abbrev pub templates_places : List (List ℕ) → Around → Path → ℕ → List Template → List Place
templates_places limited a at i [] = []
templates_places limited a at i (t ∷ ts) =
    broken rules.double_name (is_among (take i (template_names a.templates)) t.name) (field_of (member_of at i) (codes "name"))
    ++ plain_places (field_of (member_of at i) (codes "name")) t.name
    ++ template_inside limited (inside a t) (member_of at i) t
    ++ templates_places limited a at (suc i) ts

-- ---- manifests

-- what stands around the workflow's own texts
abbrev pub outside : Manifest → Around
outside m =
    record { reach = only_name; arguments = argument_names m.arguments; inputs = []; templates = m.templates; steps = []; tasks = []; before = all; own = None }

-- the call of a template with the workflow's arguments
abbrev pub entry_places : List Template → List Argument → Path → List ℕ → List Place
entry_places ts given path name = broken rules.unknown_parameter (lacks_value ts name given) path ++ template_places ts path name

abbrev pub entry_if_there : List Template → List Argument → Path → Option (List ℕ) → List Place
entry_if_there ts given path None = []
entry_if_there ts given path (Some name) = entry_places ts given path name

-- `limited` are the semaphores that have a limit, and `a` is what stands around the workflow's own texts
abbrev pub entered_places : Around → Manifest → List Place
entered_places a m =
    entry_places a.templates m.arguments (codes "spec.entrypoint") m.entrypoint ++ arguments_places a (codes "spec") m.arguments

abbrev pub ended_places : List (List ℕ) → Around → Manifest → List Place
ended_places limited a m =
    entry_if_there a.templates m.arguments (codes "spec.onExit") m.on_exit ++ lock_places limited (codes "spec") m.lock

abbrev pub parts_places : List (List ℕ) → Around → Manifest → List Place
parts_places limited a m =
    plain_places (codes "metadata.namespace") m.namespace
    ++ entered_places a m
    ++ ended_places limited a m
    ++ templates_places limited a (codes "spec.templates") 0 m.templates

abbrev pub manifest_places : List (List ℕ) → Manifest → List Place
manifest_places limited m = parts_places limited (outside m) m
