-- What follows the tasks of a DAG that are made
-- (Argo, "DAG" and "Enhanced depends logic"; field reference, `DAGTemplate` and `DAGTask`).
-- Branch phases, the rule of `failFast` and the moment at which `depends` is evaluated are this project's own.
use Rattle.std.specs.Prelude.{ℕ, suc, List, [], ◌∷◌, Bool, not, ◌&&◌, false, Option, Some, None, if◌then◌else◌}
use Rattle.std.specs.List.{list_all}
use Rattle.depends_expr.specs.Expression.{Expression}
use Rattle.depends_expr.specs.Truth.{truth, named}
use Rattle.wf_manifest.specs.declared.calls.Task.{Task}
use Rattle.wf_manifest.specs.declared.calls.Dag.{Dag}
use Rattle.meaning.specs.Dags.{awaited, is_meant, Standing, is_over, result_of, is_existing, is_ready, is_doomed, dag_over, dag_phase, Look, look, Standings, standings}
use Rattle.dag_template.specs.declared.states.TaskState.{TaskState}
use Rattle.dag_template.specs.declared.states.DagStep.{DagStep}
use Rattle.dag_template.specs.States.{nowhere, as_stated, as_begun}

-- the positions, the first of which is i, of the tasks that pass
abbrev pub places_from : ℕ → (Task × Standing → Bool) → Standings → List ℕ
places_from i passes [] = []
places_from i passes (s ∷ ss) =
    if passes s then i ∷ places_from (suc i) passes ss else places_from (suc i) passes ss

-- each task that it names is over, and it is false
abbrev pub denies : Look → Option Expression → Bool
denies at None = false
denies at (Some e) = list_all (λ n. is_over (at n)) (named e) && not (truth (λ n. result_of (at n)) e)

-- a target or an ancestor of one whose `depends` is false
abbrev pub is_left_out : Dag → Standings → Task → Bool
is_left_out d ss t = is_meant d t && denies (look ss) (awaited d.tasks t)

-- what follows tasks that stand so: a ready one may begin while the DAG is not doomed
abbrev pub step_by : Dag → Standings → DagStep
step_by d ss = record {
  exist = places_from 0 (λ s. is_existing s.1) ss;
  omit = places_from 0 (λ s. is_left_out d ss s.0) ss;
  begin = places_from 0 (λ s. not (is_doomed d ss) && is_ready s.1) ss;
  phase = if dag_over d ss then Some (dag_phase d ss) else None;
}

-- how the tasks of a DAG stand by their states
abbrev pub stand : Dag → List TaskState → Standings
stand d states = standings (as_begun states) (as_stated states) nowhere [] d

-- what follows the tasks of a DAG
abbrev pub step : Dag → List TaskState → DagStep
step d states = step_by d (stand d states)
