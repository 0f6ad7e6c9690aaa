-- A node has the same exit hook behind it, or none.
use Rattle.locality.proofs.Calls.{hooked_are_local}
use Rattle.locality.proofs.laws.hooked_are_local.Goals as goal

pub returns : goal.returns
returns c = hooked_are_local
