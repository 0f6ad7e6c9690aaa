-- DAGs: which tasks exist, and what becomes of them
-- (Argo, "DAG" and "Enhanced depends logic"; field reference, `DAGTemplate` and `DAGTask`).
-- Branch phases, the rule of `failFast` with its recorded beginnings, and the moment at which `depends` is evaluated
-- are this project's own.
use Rattle.std.specs.Prelude.{ℕ, zero, suc, List, [], ◌∷◌, ◌++◌, length, Bool, true, false, not, ◌&&◌, ◌||◌, Option, Some, None, if◌then◌else◌, codes, map, flat_map, filter, bytes_eq}
use Rattle.std.specs.List.{list_any, list_all, find}
use Rattle.base_types.specs.Names.{is_among}
use Rattle.tree_types.specs.declared.path.Sel.TheVariants.{Task as task_sel}
use Rattle.tree_types.specs.declared.phase.Phase.{Phase}
use Rattle.tree_types.specs.declared.phase.Phase.TheVariants.{Running, Succeeded, Omitted}
use Rattle.tree_types.specs.declared.node.Kind.TheVariants as kind
use Rattle.tree_types.specs.declared.node.Note.TheVariants as note
use Rattle.tree_types.specs.Phases.{worst_of, is_succeeded, is_failed, is_error, is_skipped, is_omitted}
use Rattle.node_names.specs.declared.seg.Seg.TheVariants as seg
use Rattle.depends_expr.specs.declared.results.TaskResult.{TaskResult}
use Rattle.depends_expr.specs.Expression.{Word, failed, errored, Expression, bare, has, both, either}
use Rattle.depends_expr.specs.Truth.{truth, named}
use Rattle.wf_manifest.specs.declared.templates.OutputDecl.{OutputDecl}
use Rattle.wf_manifest.specs.declared.calls.Task.{Task}
use Rattle.wf_manifest.specs.declared.calls.Dag.{Dag}
use Rattle.scopes.specs.Substitution.{Scope}
use Rattle.meaning.specs.declared.lines.Place.{Place}
use Rattle.meaning.specs.Answers.{path, Answers}
use Rattle.meaning.specs.Lines.{numbered, below, Made, Parts, nothing, call, may_begin, no_outputs, made, alone, tags_of}
use Rattle.meaning.specs.Outputs.{computed, ended_node}
use Rattle.meaning.specs.Steps.{Caller, covers_failed, covers_error, covered}

abbrev pub Names : Type 0
Names = List (List ℕ)

abbrev pub task_named : List Task → List ℕ → Option Task
task_named ts n = find (λ t. bytes_eq t.call.name n) ts

-- ---- what a task waits for

abbrev pub or_covered : Bool → List ℕ → Word → Expression → Expression
or_covered covers n w e = if covers then either e (has n w) else e

-- a dependency is its bare name, or a failure of it that its own `continueOn` covers
abbrev pub dependency_by : List ℕ → Option Task → Expression
dependency_by n None = bare n
dependency_by n (Some t) =
    let on = t.call.continue_on in
    or_covered (covers_error on) n errored (or_covered (covers_failed on) n failed (bare n))

abbrev pub dependency : List Task → List ℕ → Expression
dependency ts n = dependency_by n (task_named ts n)

abbrev pub and_all : Expression → Option Expression → Option Expression
and_all e None = Some e
and_all e (Some rest) = Some (both e rest)

-- `dependencies: [A, B]` is `A && B`
abbrev pub all_dependencies : List Task → Names → Option Expression
all_dependencies ts [] = None
all_dependencies ts (n ∷ ns) = and_all (dependency ts n) (all_dependencies ts ns)

abbrev pub awaited_by : List Task → Option Expression → Option Names → Option Expression
awaited_by ts (Some e) dependencies = Some e
awaited_by ts None (Some ns) = all_dependencies ts ns
awaited_by ts None None = None

-- what a task waits for, if it waits
abbrev pub awaited : List Task → Task → Option Expression
awaited ts t = awaited_by ts t.depends t.dependencies

abbrev pub named_by : Option Expression → Names
named_by None = []
named_by (Some e) = named e

-- the tasks that a task depends on
abbrev pub parents : List Task → Task → Names
parents ts t = named_by (awaited ts t)

abbrev pub parents_found : List Task → Option Task → Names
parents_found ts None = []
parents_found ts (Some t) = parents ts t

abbrev pub parents_of : List Task → List ℕ → Names
parents_of ts n = parents_found ts (task_named ts n)

-- ---- targets and their ancestors

-- whether a task is one of these, or an ancestor of one in at most so many steps
abbrev pub reaches : List Task → ℕ → Names → List ℕ → Bool
reaches ts zero ns n = is_among ns n
reaches ts (suc k) ns n = is_among ns n || reaches ts k (flat_map (parents_of ts) ns) n

-- no task depends on it
abbrev pub is_last : List Task → Task → Bool
is_last ts t = not (list_any (λ u. is_among (parents ts u) t.call.name) ts)

abbrev pub target_names_by : List Task → Names → Names
target_names_by ts [] = map (λ t. t.call.name) (filter (is_last ts) ts)
target_names_by ts (n ∷ ns) = n ∷ ns

-- the tasks of `target`, else those that no task depends on
abbrev pub target_names : Dag → Names
target_names d = target_names_by d.tasks d.targets

-- a target, or an ancestor of one: the other tasks do not exist
abbrev pub is_meant : Dag → Task → Bool
is_meant d t = reaches d.tasks (length d.tasks) (target_names d) t.call.name

-- ---- how a task stands

pub data Standing : Type 0 where
  -- a task that it names is not finished, or it is neither a target nor an ancestor of one
  waiting : Standing
  -- it may begin, and its beginning is not recorded
  ready : Standing
  -- it exists: what it made, its branch phase once it is finished, and the tags of the tasks before it
  exists : Made → Phase → Scope → Standing

abbrev pub is_over : Standing → Bool
is_over (exists m branch seen) = m.own.finished
is_over _ = false

abbrev pub no_result : TaskResult
no_result = record {
  succeeded = false;
  failed = false;
  errored = false;
  skipped = false;
  omitted = false;
  any_succeeded = false;
  all_failed = false;
}

abbrev pub result_of_made : Made → TaskResult
result_of_made m = record {
  succeeded = is_succeeded m.own.node.phase;
  failed = is_failed m.own.node.phase;
  errored = is_error m.own.node.phase;
  skipped = is_skipped m.own.node.phase;
  omitted = is_omitted m.own.node.phase;
  any_succeeded = m.own.any_succeeded;
  all_failed = m.own.all_failed;
}

abbrev pub result_of : Standing → TaskResult
result_of (exists m branch seen) = result_of_made m
result_of _ = no_result

abbrev pub branch_of : Standing → Phase
branch_of (exists m branch seen) = branch
branch_of _ = Succeeded

-- a task's own tags
abbrev pub own_tags : List ℕ → Standing → Scope
own_tags n (exists m branch seen) = tags_of (codes "tasks." ++ n) m
own_tags n _ = []

-- the tags of a task and of its ancestors
abbrev pub tags_up_to : List ℕ → Standing → Scope
tags_up_to n (exists m branch seen) = tags_of (codes "tasks." ++ n) m ++ seen
tags_up_to n _ = []

-- how the task of a name stands
abbrev pub Look : Type 0
Look = List ℕ → Standing

-- tasks, and how they stand
abbrev pub Standings : Type 0
Standings = List (Task × Standing)

abbrev pub look : Standings → Look
look [] n = waiting
look (s ∷ ss) n = if bytes_eq s.0.call.name n then s.1 else look ss n

abbrev pub task_place : Place → ℕ → Task → Place
task_place place i t = below place (task_sel i) (seg.Call t.call.name)

-- the tags of some tasks and of their ancestors
abbrev pub tags_before : Look → Names → Scope
tags_before at ns = flat_map (λ n. tags_up_to n (at n)) ns

-- the worst branch phase of some tasks
abbrev pub worst_branch : Look → Names → Phase
worst_branch at ns = worst_of (map (λ n. branch_of (at n)) ns)

module _ (A : Answers) (called : Caller) (place : Place) (scope : Scope) (d : Dag) where
  -- a task that begins, in the scope of its ancestors; its branch phase is the phase as its `continueOn` covers it
  abbrev pub begun_task : Scope → ℕ → Task → Standing
  begun_task seen i t =
      let m = called (codes "tasks.") (task_place place i t) (seen ++ scope) t.call in
      exists m (covered t.call.continue_on m.own.node.phase) seen

  abbrev pub free_by : Scope → ℕ → Task → Bool → Standing
  free_by seen i t false = ready
  free_by seen i t true = begun_task seen i t

  -- nothing holds it back: it exists, with `failFast` exactly where its beginning is recorded
  abbrev pub free : Scope → ℕ → Task → Standing
  free seen i t = free_by seen i t (not d.fail_fast || A.begun (task_place place i t).sels)

  -- its `depends` is false: it is Omitted, with this branch phase
  abbrev pub omitted : Phase → Scope → ℕ → Task → Standing
  omitted branch seen i t = exists (alone (task_place place i t) kind.Skipped Omitted note.DependsFalse) branch seen

  abbrev pub decided_by : Look → ℕ → Task → Expression → Bool → Standing
  decided_by at i t e false = omitted (worst_branch at (named e)) (tags_before at (named e)) i t
  decided_by at i t e true = free (tags_before at (named e)) i t

  -- `depends` is evaluated once every task that it names is finished
  abbrev pub waits_by : Look → ℕ → Task → Expression → Bool → Standing
  waits_by at i t e false = waiting
  waits_by at i t e true = decided_by at i t e (truth (λ n. result_of (at n)) e)

  abbrev pub meant : Look → ℕ → Task → Option Expression → Standing
  meant at i t None = free [] i t
  meant at i t (Some e) = waits_by at i t e (list_all (λ n. is_over (at n)) (named e))

  abbrev pub meant_by : Look → ℕ → Task → Bool → Standing
  meant_by at i t false = waiting
  meant_by at i t true = meant at i t (awaited d.tasks t)

  -- how a task stands, given how the tasks that it names stand
  abbrev pub standing : Look → ℕ → Task → Standing
  standing at i t = meant_by at i t (is_meant d t)

  abbrev pub with_standing : Look → ℕ → Task → Task × Standing
  with_standing at i t = (t, standing at i t)

  abbrev pub standings_by : Look → Standings
  standings_by at = numbered (with_standing at) 0 d.tasks

  -- how the tasks stand that are settled in so many rounds
  abbrev pub rounds : ℕ → Standings
  rounds zero = []
  rounds (suc n) = let before = rounds n in standings_by (look before)

  -- as tasks do not depend on each other in a circle, as many rounds as there are tasks settle them all
  abbrev pub standings : Standings
  standings = rounds (length d.tasks)

-- ---- the DAG's node

abbrev pub is_bad : Phase → Bool
is_bad p = is_failed p || is_error p

abbrev pub is_existing : Standing → Bool
is_existing (exists m branch seen) = true
is_existing _ = false

abbrev pub is_ready : Standing → Bool
is_ready ready = true
is_ready _ = false

-- the targets that exist
abbrev pub targets : Dag → Standings → List Standing
targets d ss = filter is_existing (map (look ss) (target_names d))

abbrev pub has_failed : Standing → Bool
has_failed s = is_over s && is_bad (branch_of s)

-- with `failFast` a target whose branch failed dooms the DAG: no further task begins
abbrev pub is_doomed : Dag → Standings → Bool
is_doomed d ss = d.fail_fast && list_any has_failed (targets d ss)

abbrev pub is_at_rest : Standing → Bool
is_at_rest (exists m branch seen) = m.own.finished
is_at_rest _ = true

abbrev pub may_go_on : Dag → Standings → Bool
may_go_on d ss = not (is_doomed d ss) && list_any (λ s. is_ready s.1) ss

-- every existing task is finished, and no further one may begin
abbrev pub dag_over : Dag → Standings → Bool
dag_over d ss = list_all (λ s. is_at_rest s.1) ss && not (may_go_on d ss)

-- the worst branch phase of its existing targets once it is over, Running before
abbrev pub dag_phase : Dag → Standings → Phase
dag_phase d ss = if dag_over d ss then worst_of (map branch_of (targets d ss)) else Running

-- what stands for a task, before more: what it made, or that it may begin, as a ready task of a DAG that is not doomed
abbrev pub task_then : Bool → Place → Standing → Parts → Parts
task_then doomed at (exists m branch seen) more = call m.own m.parts more
task_then false at ready more = may_begin (path at.sels) more
task_then doomed at _ more = more

-- the tasks from task i on
abbrev pub tasks_below : Bool → Place → ℕ → Standings → Parts
tasks_below doomed place i [] = nothing
tasks_below doomed place i (s ∷ ss) =
    task_then doomed (task_place place i s.0) s.1 (tasks_below doomed place (suc i) ss)

abbrev pub dag_tags : Standings → Scope
dag_tags ss = flat_map (λ s. own_tags s.0.call.name s.1) ss

abbrev pub dag_by : Place → Scope → List OutputDecl → Dag → Standings → Made
dag_by place scope declared d ss =
    made (ended_node place kind.DAG (dag_phase d ss) note.None no_outputs (computed (dag_tags ss ++ scope) declared)) []
    (tasks_below (is_doomed d ss) place 0 ss)

abbrev pub dag_made : Answers → Caller → Place → Scope → List OutputDecl → Dag → Made
dag_made A called place scope declared d = dag_by place scope declared d (standings A called place scope d)
