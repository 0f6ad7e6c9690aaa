-- A template's node is the same.
use Rattle.locality.proofs.Calls.{templates_are_local}
use Rattle.locality.proofs.laws.templates_are_local.Goals as goal

pub returns : goal.returns
returns c = templates_are_local
