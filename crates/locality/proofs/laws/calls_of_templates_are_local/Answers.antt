-- A call of a template makes the same, with the same behind it.
use Rattle.locality.proofs.Calls.{calls_of_templates_are_local}
use Rattle.locality.proofs.laws.calls_of_templates_are_local.Goals as goal

pub returns : goal.returns
returns c = calls_of_templates_are_local
