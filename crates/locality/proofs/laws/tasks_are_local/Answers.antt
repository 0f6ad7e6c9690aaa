-- A task stands the same where the tasks do that it waits for.
use Rattle.locality.proofs.Tasks.{tasks_are_local}
use Rattle.locality.proofs.laws.tasks_are_local.Goals as goal

pub returns : goal.returns
returns c = tasks_are_local
