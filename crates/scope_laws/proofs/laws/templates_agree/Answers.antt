-- A template's node is the same in scopes with the same values.
use Rattle.scope_laws.proofs.Calls.{templates_agree}
use Rattle.scope_laws.proofs.laws.templates_agree.Goals as goal

pub returns : goal.returns
returns c = templates_agree
