use Rattle.pod_laws.proofs.Ordered.{front_is_kept}
use Rattle.pod_laws.proofs.laws.front_is_kept.Goals as goal

pub returns : goal.returns
returns c = front_is_kept
