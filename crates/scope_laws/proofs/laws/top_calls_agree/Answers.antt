-- The entrypoint and the exit handler make the same under globals with the same values.
use Rattle.scope_laws.proofs.Calls.{top_calls_agree}
use Rattle.scope_laws.proofs.laws.top_calls_agree.Goals as goal

pub returns : goal.returns
returns c = top_calls_agree
