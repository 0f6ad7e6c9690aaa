-- How many nodes stand for the tasks of a DAG, and what is told of a room that they take.
use Rattle.std.specs.Prelude.{◌≡◌, ℕ, ◌+◌, ◌<◌, List, [], ◌∷◌, Result, Ok, Err}
use Rattle.wf_manifest.specs.declared.calls.Dag.{Dag}
use Rattle.scopes.specs.Substitution.{Scope}
use Rattle.meaning.specs.declared.lines.Place.{Place}
use Rattle.meaning.specs.Answers.{Answers}
use Rattle.meaning.specs.Steps.{Caller}
use Rattle.meaning.specs.Dags.{Standing, exists, Standings, standings}
use Rattle.tree_state.specs.declared.refused.TreeRefused.{TreeRefused}
use Rattle.tree_state.specs.declared.refused.TreeRefused.TheVariants.{TooLarge, Memory}
use Rattle.tree_state.specs.Counting.{count}
use Rattle.dag_board.specs.declared.board.Board.{Board}
use Rattle.dag_board.specs.Boards.{stood, IsBoard}

-- the nodes of a task
abbrev pub stood_count : Standing → ℕ
stood_count (exists m branch seen) = count m
stood_count _ = 0

-- the nodes of the tasks at these positions
abbrev pub count_at : Standings → List ℕ → ℕ
count_at ss [] = 0
count_at ss (p ∷ ps) = stood_count (stood ss p) + count_at ss ps

-- the room of so many nodes is taken, and the board shows it; or there is too little room
abbrev pub GivesTask : ℕ → ℕ → Result (Unit {0}) TreeRefused → Type 0 → ℕ → Type 0
GivesTask before after (Ok u) Shown n = Shown × (after + n ≡ before)
GivesTask before after (Err TooLarge) Shown n = before < n
GivesTask before after (Err Memory) Shown n = Unit {0}

module _ (A : Answers) (called : Caller) (place : Place) (scope : Scope) (d : Dag) (order : List ℕ) where
  -- a board of all tasks, for which the room is taken; or there is too little room for them
  abbrev pub GivesBoard : ℕ → ℕ → Result Board TreeRefused → Type 0
  GivesBoard before after (Ok b) =
      IsBoard A called place scope d order b × (after + count_at (standings A called place scope d) order ≡ before)
  GivesBoard before after (Err TooLarge) = before < count_at (standings A called place scope d) order
  GivesBoard before after (Err Memory) = Unit {0}
