-- A call without a loop makes the same.
use Rattle.locality.proofs.Calls.{single_calls_are_local}
use Rattle.locality.proofs.laws.single_calls_are_local.Goals as goal

pub returns : goal.returns
returns c = single_calls_are_local
