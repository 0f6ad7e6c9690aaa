-- What stands below a DAG, by what a board has.
use Rattle.std.specs.Prelude.{ℕ, suc, List, [], ◌∷◌, ◌++◌, Bool, not, ◌&&◌, Option, Some, None, if◌then◌else◌}
use Rattle.tree_types.specs.declared.phase.Phase.{Phase}
use Rattle.tree_types.specs.declared.phase.Phase.TheVariants.{Running}
use Rattle.wf_manifest.specs.declared.calls.Task.{Task}
use Rattle.scopes.specs.Substitution.{Scope}
use Rattle.meaning.specs.declared.lines.Place.{Place}
use Rattle.meaning.specs.Answers.{path}
use Rattle.meaning.specs.Lines.{Parts, nothing, call, may_begin, Made}
use Rattle.meaning.specs.Dags.{task_place}
use Rattle.dag_board.specs.declared.board.Board.{Board}
use Rattle.dag_board.specs.Boards.{stand_at, state_at}
use Rattle.dag_board.specs.Inside.Befores.{made_tags}

-- the phase of a DAG that is over, or Running
abbrev pub or_running : Option Phase → Phase
or_running (Some phase) = phase
or_running None = Running

-- what stands for a task, before more
abbrev pub part_then : Bool → Place → Option Made → Parts → Parts
part_then begins at (Some m) more = call m.own m.parts more
part_then begins at None more = if begins then may_begin (path at.sels) more else more

-- what stands for the tasks from task i on
abbrev pub parts_from : Bool → Place → Board → ℕ → List Task → Parts
parts_from doomed place b i [] = nothing
parts_from doomed place b i (t ∷ ts) =
    part_then (not doomed && (stand_at b i).ready) (task_place place i t) (state_at b i)
    (parts_from doomed place b (suc i) ts)

-- the tags of the tasks from task i on
abbrev pub tags_from : Board → ℕ → List Task → Scope
tags_from b i [] = []
tags_from b i (t ∷ ts) = made_tags t.call.name (state_at b i) ++ tags_from b (suc i) ts
