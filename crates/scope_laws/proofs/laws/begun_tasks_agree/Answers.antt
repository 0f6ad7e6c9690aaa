-- A task that begins makes the same behind tags with the same values.
use Rattle.scope_laws.proofs.Dags.{begun_tasks_agree}
use Rattle.scope_laws.proofs.laws.begun_tasks_agree.Goals as goal

pub returns : goal.returns
returns c = begun_tasks_agree
