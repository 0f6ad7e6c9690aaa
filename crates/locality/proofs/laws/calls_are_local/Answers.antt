-- Where the same is answered at their paths and below, calls make the same, with any number of depths left.
use Rattle.locality.proofs.Calls.{calls_are_local}
use Rattle.locality.proofs.laws.calls_are_local.Goals as goal

pub returns : goal.returns
returns c = calls_are_local
