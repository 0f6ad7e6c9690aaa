-- A DAG is the same, whatever is answered at its own path.
use Rattle.locality.proofs.Dags.{dags_are_local}
use Rattle.locality.proofs.laws.dags_are_local.Goals as goal

pub returns : goal.returns
returns c = dags_are_local
