-- What a plan tells of a DAG.
use Rattle.std.specs.Prelude.{◌≡◌, ℕ, suc, ◌<◌, ◌==◌, List, [], ◌∷◌, length, map, get_or, slice_get, Some, Bool, if◌then◌else◌}
use Rattle.std.specs.List.{list_any}
use Rattle.wf_manifest.specs.declared.calls.Task.{Task}
use Rattle.wf_manifest.specs.declared.calls.Dag.{Dag}
use Rattle.wf_manifest.specs.Valid.{HasRank}
use Rattle.task_order.specs.Orders.{waited}
use Rattle.meaning.specs.Dags.{Names, is_meant, target_names}
use Rattle.dag_plan.specs.declared.plan.DagPlan.{DagPlan}
use Rattle.dag_plan.specs.Order.{first, IsOrder}

-- the first tasks of these names stand at these positions
abbrev pub AreAt : List Task → Names → List ℕ → Type 0
AreAt ts ns ps = map (first ts) ns ≡ map Some ps

-- a place stands in a row
abbrev pub has_place : ℕ → List ℕ → Bool
has_place p row = list_any (λ q. q == p) row

-- the positions, from i on, of the rows in which a place stands
abbrev pub rows_with : ℕ → ℕ → List (List ℕ) → List ℕ
rows_with p i [] = []
rows_with p i (row ∷ rows) = if has_place p row then i ∷ rows_with p (suc i) rows else rows_with p (suc i) rows

pub record IsPlan (d : Dag) (plan : DagPlan) : Type 0 where
  pub ranked : HasRank d.tasks
  -- each task is the first of its name
  pub own : (p : ℕ) (t : Task) → slice_get d.tasks p ≡ Some t → first d.tasks t.call.name ≡ Some p
  pub order : IsOrder d.tasks plan.order
  pub meant : plan.meant ≡ map (is_meant d) d.tasks
  -- where those stand that each task waits for
  pub long : length plan.rows ≡ length d.tasks
  pub rows : (p : ℕ) (t : Task) → slice_get d.tasks p ≡ Some t → AreAt d.tasks (waited t) (get_or plan.rows p [])
  -- where those stand that wait for each task, each once and in their order
  pub long_behind : length plan.behind ≡ length d.tasks
  pub behind : (p : ℕ) → p < length d.tasks → get_or plan.behind p [] ≡ rows_with p 0 plan.rows
  pub targets : AreAt d.tasks (target_names d) plan.targets
