-- A pod is the same.
use Rattle.locality.proofs.Leaves.{pods_are_local}
use Rattle.locality.proofs.laws.pods_are_local.Goals as goal

pub returns : goal.returns
returns c = pods_are_local
