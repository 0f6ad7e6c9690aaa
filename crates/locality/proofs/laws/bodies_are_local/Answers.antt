-- The same of its body.
use Rattle.locality.proofs.Calls.{bodies_are_local}
use Rattle.locality.proofs.laws.bodies_are_local.Goals as goal

pub returns : goal.returns
returns c = bodies_are_local
