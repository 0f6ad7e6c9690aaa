-- Calls make the same under globals with the same values.
use Rattle.scope_laws.proofs.Calls.{calls_agree}
use Rattle.scope_laws.proofs.laws.calls_agree.Goals as goal

pub returns : goal.returns
returns c = calls_agree
