use Rattle.pod_laws.proofs.Asked.{one_new_by_count}
use Rattle.pod_laws.proofs.laws.one_new_by_count.Goals as goal

pub returns : goal.returns
returns c = one_new_by_count
