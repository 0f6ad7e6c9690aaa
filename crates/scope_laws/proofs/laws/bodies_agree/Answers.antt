-- A template's body is the same in scopes with the same values.
use Rattle.scope_laws.proofs.Calls.{bodies_agree}
use Rattle.scope_laws.proofs.laws.bodies_agree.Goals as goal

pub returns : goal.returns
returns c = bodies_agree
