-- The laws of what follows the tasks of a DAG.
use Rattle.std.specs.Prelude.{◌≡◌, ℕ, List, [], Bool, true}
use Rattle.wf_manifest.specs.declared.calls.Task.{Task}
use Rattle.wf_manifest.specs.declared.calls.Dag.{Dag}
use Rattle.wf_manifest.specs.Valid.{HasRank}
use Rattle.scopes.specs.Substitution.{Scope}
use Rattle.meaning.specs.declared.lines.Place.{Place}
use Rattle.meaning.specs.Answers.{Answers}
use Rattle.meaning.specs.Lines.{numbered}
use Rattle.meaning.specs.Steps.{Caller}
use Rattle.meaning.specs.Dags.{Standing, exists, Standings, standings, task_place}
use Rattle.growth.specs.Rounds.{Solves}
use Rattle.dag_template.specs.declared.states.TaskState.{TaskState}
use Rattle.dag_template.specs.States.{unmade, nowhere, as_stated, as_begun}
use Rattle.dag_template.specs.Step.{step_by, step}

-- a list that solves the equations of a DAG, with what the states of its tasks say
abbrev pub SolvesByStates : Dag → List TaskState → Standings → Type 0
SolvesByStates d states ss = Solves (as_begun states) (as_stated states) nowhere [] d ss

-- where tasks have a rank, as a valid manifest's have, such a list tells what follows
abbrev pub SolvedIsTold : Type 0
SolvedIsTold =
    (d : Dag) (states : List TaskState) (ss : Standings) → HasRank d.tasks → SolvesByStates d states ss →
    step d states ≡ step_by d ss

-- the state of a task that stands so
abbrev pub seen : Bool → Standing → TaskState
seen begun (exists m branch tags) = record {
  made = true;
  begun = begun;
  phase = m.own.node.phase;
  finished = m.own.finished;
  any_succeeded = m.own.any_succeeded;
  all_failed = m.own.all_failed;
}
seen begun _ = unmade begun

abbrev pub state_seen : Answers → Place → ℕ → Task × Standing → TaskState
state_seen A place i s = seen (A.begun (task_place place i s.0).sels) s.1

-- the states of tasks that stand so
abbrev pub states_seen : Answers → Place → Standings → List TaskState
states_seen A place ss = numbered (state_seen A place) 0 ss

-- what follows by the states of the tasks alone is what follows by all that the tasks make
abbrev pub StatesSuffice : Type 0
StatesSuffice =
    (A : Answers) (called : Caller) (place : Place) (scope : Scope) (d : Dag) → HasRank d.tasks →
    let ss = standings A called place scope d in
    step d (states_seen A place ss) ≡ step_by d ss
