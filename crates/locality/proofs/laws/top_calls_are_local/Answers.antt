-- The entrypoint and the exit handler make the same.
use Rattle.locality.proofs.Calls.{top_calls_are_local}
use Rattle.locality.proofs.laws.top_calls_are_local.Goals as goal

pub returns : goal.returns
returns c = top_calls_are_local
