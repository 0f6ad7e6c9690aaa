-- The places of a DAG (Argo, "DAG" and "Enhanced depends logic"; field reference, `DAGTemplate` and `DAGTask`).
use Rattle.std.specs.Prelude.{ℕ, suc, List, [], ◌∷◌, ◌++◌, take, not, Option, Some, None, codes}
use Rattle.std.specs.List.{list_all}
use Rattle.base_types.specs.Names.{is_among}
use Rattle.json_fields.specs.Paths.{Path, field_of, member_of}
use Rattle.field_kinds.specs.Rules as rules
use Rattle.depends_expr.specs.Expression.{Expression}
use Rattle.depends_expr.specs.Truth.{names_of}
use Rattle.wf_manifest.specs.declared.calls.Task.{Task}
use Rattle.wf_manifest.specs.declared.calls.Dag.{Dag}
use Rattle.wf_manifest.specs.declared.templates.Body.TheVariants as body
use Rattle.wf_manifest.specs.Valid.{is_of_one_spelling}
use Rattle.wf_places.specs.declared.place.Place.{Place}
use Rattle.wf_places.specs.Broken.{broken}
use Rattle.wf_places.specs.Circles.{has_circle}
use Rattle.wf_places.specs.Tags.{Around, ancestors, call_names}
use Rattle.wf_places.specs.Calls.{call_front, call_back}

-- the names that are left, which tasks of the DAG should have
abbrev pub named_places : List (List ℕ) → Path → ℕ → List (List ℕ) → List Place
named_places known at i [] = []
named_places known at i (n ∷ ns) =
    broken rules.unknown_name (not (is_among known n)) (member_of at i) ++ named_places known at (suc i) ns

abbrev pub dependencies_places : List (List ℕ) → Path → Option (List (List ℕ)) → List Place
dependencies_places known at None = []
dependencies_places known at (Some ns) = named_places known (field_of at (codes "dependencies")) 0 ns

abbrev pub depends_places : List (List ℕ) → Path → Option Expression → List Place
depends_places known at None = []
depends_places known at (Some e) =
    broken rules.unknown_name (not (list_all (is_among known) (names_of e))) (field_of at (codes "depends"))

-- a task may name its ancestors
abbrev pub of_task : Around → List Task → List ℕ → Around
of_task a tasks task = record a { before = ancestors tasks task }

-- the task of that position
abbrev pub task_places : Around → ℕ → Path → Task → List Place
task_places a i at t =
    call_front a (is_among (take i (call_names a.tasks)) t.call.name) at t.call
    ++ (dependencies_places (call_names a.tasks) at t.dependencies ++ depends_places (call_names a.tasks) at t.depends)
    ++ call_back a at t.call

-- the tasks that are left, the first of these having that position
abbrev pub tasks_places : Around → List Task → Path → ℕ → List Task → List Place
tasks_places a tasks at i [] = []
tasks_places a tasks at i (t ∷ ts) =
    task_places (of_task a tasks t.call.name) i (member_of at i) t ++ tasks_places a tasks at (suc i) ts

abbrev pub dag_places : Around → Path → Dag → List Place
dag_places a at dag =
    broken rules.depends_mix (not (is_of_one_spelling (body.Dag dag))) at
    ++ broken rules.cycle (has_circle dag.tasks) at
    ++ broken rules.unknown_name (not (list_all (is_among (call_names a.tasks)) dag.targets)) (field_of at (codes "target"))
    ++ tasks_places a dag.tasks (field_of at (codes "tasks")) 0 dag.tasks
