-- A DAG of which only the states of its tasks are known.
use Rattle.std.specs.Prelude.{ℕ, List, [], ◌∷◌, Bool, true, false, ◌&&◌, None, get_or, if◌then◌else◌}
use Rattle.tree_types.specs.declared.path.Sel.{Sel}
use Rattle.tree_types.specs.declared.path.Sel.TheVariants.{Task as task_sel}
use Rattle.tree_types.specs.declared.phase.Phase.{Phase}
use Rattle.tree_types.specs.declared.phase.Phase.TheVariants.{Pending}
use Rattle.tree_types.specs.declared.node.Kind.TheVariants as kind
use Rattle.tree_types.specs.declared.node.Note.TheVariants as note
use Rattle.meaning.specs.declared.lines.Place.{Place}
use Rattle.meaning.specs.Answers.{Answers}
use Rattle.meaning.specs.Lines.{Made, nothing, no_outputs, node}
use Rattle.meaning.specs.Steps.{Caller}
use Rattle.dag_template.specs.declared.states.TaskState.{TaskState}

-- the state of a task that is not made
abbrev pub unmade : Bool → TaskState
unmade begun = record {
  made = false;
  begun = begun;
  phase = Pending;
  finished = false;
  any_succeeded = false;
  all_failed = false;
}

-- the state of a task by its position
abbrev pub state_of : List TaskState → ℕ → TaskState
state_of states i = get_or states i (unmade false)

abbrev pub state_at : List TaskState → List Sel → TaskState
state_at states (task_sel i ∷ []) = state_of states i
state_at states _ = unmade false

abbrev pub phase_of : TaskState → Phase
phase_of s = if s.made then s.phase else Pending

-- what the call of a task makes, as far as its state says
abbrev pub stated : Place → TaskState → Made
stated place s = record {
  own = record {
    node = node place kind.Pod (phase_of s) note.None no_outputs;
    wants = [];
    finished = s.made && s.finished;
    any_succeeded = s.made && s.any_succeeded;
    all_failed = s.made && s.all_failed;
  };
  parts = nothing;
}

-- the place of a DAG that stands nowhere else
abbrev pub nowhere : Place
nowhere = record { sels = []; name = []; depth = 0 }

-- below it the call of a task makes what the task's state says
abbrev pub as_stated : List TaskState → Caller
as_stated states = λ prefix place scope c. stated place (state_at states place.sels)

-- the beginnings that are recorded; nothing else is asked of a DAG itself
abbrev pub as_begun : List TaskState → Answers
as_begun states = record {
  started = true;
  outcome = λ place. None;
  granted = λ p. false;
  memo = λ p. None;
  armed = λ p. None;
  due = λ p. false;
  resumed = λ p. false;
  begun = λ p. (state_at states p).begun;
}
