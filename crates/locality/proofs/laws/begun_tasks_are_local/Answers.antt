-- A task that begins makes the same behind the same tags.
use Rattle.locality.proofs.Dags.{begun_tasks_are_local}
use Rattle.locality.proofs.laws.begun_tasks_are_local.Goals as goal

pub returns : goal.returns
returns c = begun_tasks_are_local
