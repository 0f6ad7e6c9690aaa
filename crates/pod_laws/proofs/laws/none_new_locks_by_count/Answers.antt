use Rattle.pod_laws.proofs.Locks.{none_new_locks_by_count}
use Rattle.pod_laws.proofs.laws.none_new_locks_by_count.Goals as goal

pub returns : goal.returns
returns c = none_new_locks_by_count
