-- Tasks stand the same below which, and below whose ancestors, the same is answered.
use Rattle.locality.proofs.Tasks.{kept_tasks_are_local}
use Rattle.locality.proofs.laws.kept_tasks_are_local.Goals as goal

pub returns : goal.returns
returns c = kept_tasks_are_local
