-- The law, proved beside the others.
use Rattle.rest_laws.proofs.Pods.{pods_wait}
use Rattle.rest_laws.proofs.laws.pods_wait.Goals as goal

pub returns : goal.returns
returns c = pods_wait
