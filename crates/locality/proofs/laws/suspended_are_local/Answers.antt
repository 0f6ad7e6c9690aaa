-- A suspended node is the same.
use Rattle.locality.proofs.Leaves.{suspended_are_local}
use Rattle.locality.proofs.laws.suspended_are_local.Goals as goal

pub returns : goal.returns
returns c = suspended_are_local
