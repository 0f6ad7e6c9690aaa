-- Worked examples of what follows the tasks of a DAG.
use Rattle.std.proofs.Common.{◌≡◌, refl}
use Rattle.std.specs.Prelude.{ℕ, List, [], ◌∷◌, Bool, true, false, Some, None, codes}
use Rattle.tree_types.specs.declared.phase.Phase.{Phase}
use Rattle.tree_types.specs.declared.phase.Phase.TheVariants.{Running, Succeeded, Failed}
use Rattle.depends_expr.specs.Expression.{Expression, bare, has, both, failed as has_failed}
use Rattle.wf_manifest.specs.declared.calls.Call.{Call}
use Rattle.wf_manifest.specs.declared.calls.Task.{Task}
use Rattle.wf_manifest.specs.declared.calls.Dag.{Dag}
use Rattle.dag_template.specs.declared.states.TaskState.{TaskState}
use Rattle.dag_template.specs.States.{unmade}
use Rattle.dag_template.specs.Step.{step}

abbrev call : List ℕ → Call
call name = record {
  name = name;
  template = codes "c";
  arguments = [];
  when = None;
  each = None;
  continue_on = None;
  exit = None;
}

abbrev task : List ℕ → Task
task name = record { call = call name; depends = None; dependencies = None }

abbrev task_if : List ℕ → Expression → Task
task_if name e = record (task name) { depends = Some e }

abbrev task_after : List ℕ → List (List ℕ) → Task
task_after name ns = record (task name) { dependencies = Some ns }

-- a task that has begun and stands so
abbrev state : Phase → Bool → TaskState
state phase finished = record {
  made = true;
  begun = true;
  phase = phase;
  finished = finished;
  any_succeeded = false;
  all_failed = false;
}

abbrev dag : Bool → List Task → Dag
dag fail_fast tasks = record { targets = []; fail_fast = fail_fast; tasks = tasks }

-- ---- a task that waits for a failure

abbrev diamond : List Task
diamond =
    task (codes "A")
    ∷ task_if (codes "B") (bare (codes "A"))
    ∷ task_if (codes "C") (bare (codes "A"))
    ∷ task_if (codes "D") (both (has (codes "B") has_failed) (bare (codes "C")))
    ∷ []

-- with `failFast` they may begin first
pub both_may_begin :
    step (dag true diamond) (state Succeeded true ∷ unmade false ∷ unmade false ∷ unmade false ∷ [])
    ≡ record { exist = 0 ∷ []; omit = []; begin = 1 ∷ 2 ∷ []; phase = None }
both_may_begin = refl

-- without it they exist at once
pub both_exist :
    step (dag false diamond) (state Succeeded true ∷ unmade false ∷ unmade false ∷ unmade false ∷ [])
    ≡ record { exist = 0 ∷ 1 ∷ 2 ∷ []; omit = []; begin = []; phase = None }
both_exist = refl

pub one_runs :
    step (dag true diamond) (state Succeeded true ∷ state Failed true ∷ state Running false ∷ unmade false ∷ [])
    ≡ record { exist = 0 ∷ 1 ∷ 2 ∷ []; omit = []; begin = []; phase = None }
one_runs = refl

pub the_failure_was_waited_for :
    step (dag true diamond) (state Succeeded true ∷ state Failed true ∷ state Succeeded true ∷ unmade false ∷ [])
    ≡ record { exist = 0 ∷ 1 ∷ 2 ∷ []; omit = []; begin = 3 ∷ []; phase = None }
the_failure_was_waited_for = refl

-- the last task is Omitted, and over with it is the DAG, with the branch phase of its only target
pub it_is_omitted :
    step (dag true diamond) (state Succeeded true ∷ state Succeeded true ∷ state Succeeded true ∷ unmade false ∷ [])
    ≡ record { exist = 0 ∷ 1 ∷ 2 ∷ 3 ∷ []; omit = 3 ∷ []; begin = []; phase = Some Succeeded }
it_is_omitted = refl

-- ---- `failFast`: a target's failure dooms the DAG

abbrev two_branches : List Task
two_branches =
    task (codes "T1")
    ∷ task (codes "V")
    ∷ task_after (codes "U") (codes "V" ∷ [])
    ∷ task_after (codes "T2") (codes "U" ∷ [])
    ∷ []

pub none_may_begin :
    step (dag true two_branches) (state Failed true ∷ state Succeeded true ∷ unmade false ∷ unmade false ∷ [])
    ≡ record { exist = 0 ∷ 1 ∷ []; omit = []; begin = []; phase = Some Failed }
none_may_begin = refl

-- what has begun goes on
pub it_goes_on :
    step (dag true two_branches) (state Failed true ∷ state Succeeded true ∷ state Running false ∷ unmade false ∷ [])
    ≡ record { exist = 0 ∷ 1 ∷ 2 ∷ []; omit = []; begin = []; phase = None }
it_goes_on = refl

pub without_it_all_go_on :
    step (dag false two_branches) (state Failed true ∷ state Succeeded true ∷ state Succeeded true ∷ unmade false ∷ [])
    ≡ record { exist = 0 ∷ 1 ∷ 2 ∷ 3 ∷ []; omit = []; begin = []; phase = None }
without_it_all_go_on = refl

-- ---- a task that is no ancestor of a target does not exist

pub only_what_is_meant :
    step (record { targets = codes "U" ∷ []; fail_fast = false; tasks = two_branches })
    (unmade false ∷ state Succeeded true ∷ state Succeeded true ∷ unmade false ∷ [])
    ≡ record { exist = 1 ∷ 2 ∷ []; omit = []; begin = []; phase = Some Succeeded }
only_what_is_meant = refl
