-- What a task makes that no other task sees.
use Rattle.std.specs.Prelude.{◌≡◌, ◌⊎◌, ◌&&◌, true, false}
use Rattle.wf_manifest.specs.declared.calls.Task.{Task}
use Rattle.wf_manifest.specs.declared.calls.Dag.{Dag}
use Rattle.meaning.specs.Lines.{Made}
use Rattle.meaning.specs.Steps.{covered}
use Rattle.meaning.specs.Dags.{is_last, is_bad}

-- no task waits for it, and it does not doom the DAG
pub record EndsAlone (d : Dag) (t : Task) (z : Made) : Type 0 where
  pub last : is_last d.tasks t ≡ true
  pub spared : (d.fail_fast && is_bad (covered t.call.continue_on z.own.node.phase)) ≡ false

-- the task runs on, or ends so
abbrev pub IsUnseen : Dag → Task → Made → Type 0
IsUnseen d t z = (z.own.finished ≡ false) ⊎ EndsAlone d t z
