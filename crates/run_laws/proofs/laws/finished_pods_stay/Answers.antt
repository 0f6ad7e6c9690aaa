-- The law, proved beside the others.
use Rattle.run_laws.proofs.Pods.{finished_pods_stay}
use Rattle.run_laws.proofs.laws.finished_pods_stay.Goals as goal

pub returns : goal.returns
returns c = finished_pods_stay
