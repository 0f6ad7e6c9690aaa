-- The law, proved beside.
use Rattle.document_laws.proofs.Schedules.{hands_are_there}
use Rattle.document_laws.proofs.laws.hands_are_there.Goals as goal

pub returns : goal.returns
returns c = hands_are_there
