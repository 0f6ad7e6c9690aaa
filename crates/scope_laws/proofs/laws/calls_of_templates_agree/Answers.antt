-- A call of a template makes the same in scopes with the same values.
use Rattle.scope_laws.proofs.Calls.{calls_of_templates_agree}
use Rattle.scope_laws.proofs.laws.calls_of_templates_agree.Goals as goal

pub returns : goal.returns
returns c = calls_of_templates_agree
