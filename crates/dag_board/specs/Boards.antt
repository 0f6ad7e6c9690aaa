-- What a board shows of the tasks of a DAG.
use Rattle.std.specs.Prelude.{◌≡◌, ℕ, zero, suc, ◌<◌, List, [], ◌∷◌, length, get_or, slice_get, Option, Some, None}
use Rattle.std.specs.List.{Contains}
use Rattle.wf_manifest.specs.declared.calls.Task.{Task}
use Rattle.wf_manifest.specs.declared.calls.Dag.{Dag}
use Rattle.scopes.specs.Substitution.{Scope}
use Rattle.meaning.specs.declared.lines.Place.{Place}
use Rattle.meaning.specs.Answers.{Answers}
use Rattle.meaning.specs.Lines.{Made}
use Rattle.meaning.specs.Steps.{Caller}
use Rattle.meaning.specs.Dags.{parents, Standing, waiting, exists, tags_before, look, Standings, standings}
use Rattle.dag_plan.specs.declared.plan.DagPlan.{DagPlan}
use Rattle.dag_template.specs.declared.stands.Stand.{Stand}
use Rattle.dag_template.specs.Stands.{sight, waits}
use Rattle.dag_board.specs.declared.board.Board.{Board}

-- ---- by positions

-- how the task at a position stands
abbrev pub stood : Standings → ℕ → Standing
stood [] p = waiting
stood (s ∷ ss) zero = s.1
stood (s ∷ ss) (suc p) = stood ss p

abbrev pub name_at : List Task → ℕ → List ℕ
name_at [] p = []
name_at (t ∷ ts) zero = t.call.name
name_at (t ∷ ts) (suc p) = name_at ts p

-- what a task made that exists
abbrev pub made_of : Standing → Option Made
made_of (exists m branch seen) = Some m
made_of _ = None

-- ---- a board

abbrev pub stand_at : Board → ℕ → Stand
stand_at b p = get_or b.stands.items p waits

abbrev pub state_at : Board → ℕ → Option Made
state_at b p = get_or b.states.items p None

-- it has a place for each task
pub record Fits (d : Dag) (b : Board) : Type 0 where
  pub stands : length b.stands.items ≡ length d.tasks
  pub states : length b.states.items ≡ length d.tasks

-- how the task at a position stands: as others see it, and what it made
pub record Shows (ss : Standings) (b : Board) (p : ℕ) : Type 0 where
  pub stand : stand_at b p ≡ sight (stood ss p)
  pub state : state_at b p ≡ made_of (stood ss p)

-- nothing of the task at a position
pub record IsBlank (b : Board) (p : ℕ) : Type 0 where
  pub stand : stand_at b p ≡ waits
  pub state : state_at b p ≡ None

module _ (A : Answers) (called : Caller) (place : Place) (scope : Scope) (d : Dag) where
  -- it shows how the tasks at these positions stand, and nothing of the others
  pub record IsBoard (done : List ℕ) (b : Board) : Type 0 where
    pub fits : Fits d b
    pub shown : (p : ℕ) → Contains done p → Shows (standings A called place scope d) b p
    pub blank : (p : ℕ) → ¬ (Contains done p) → IsBlank b p

  -- how the task at a position stands
  abbrev pub stands_at : ℕ → Standing
  stands_at p = stood (standings A called place scope d) p

  -- the tags of the tasks that a task depends on, and of their ancestors
  abbrev pub seen_by : Task → Scope
  seen_by t = tags_before (look (standings A called place scope d)) (parents d.tasks t)

-- a task whose turn is next, when so many are done in the order of a plan
pub record IsTurn (d : Dag) (plan : DagPlan) (k i : ℕ) (t : Task) : Type 0 where
  pub low : k < length plan.order
  pub here : get_or plan.order k 0 ≡ i
  pub task : slice_get d.tasks i ≡ Some t
