-- An exit hook makes the same behind the same node.
use Rattle.locality.proofs.Calls.{hooks_are_local}
use Rattle.locality.proofs.laws.hooks_are_local.Goals as goal

pub returns : goal.returns
returns c = hooks_are_local
