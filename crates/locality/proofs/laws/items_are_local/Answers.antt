-- An item of a loop makes the same, whatever is answered of the others.
use Rattle.locality.proofs.Calls.{items_are_local}
use Rattle.locality.proofs.laws.items_are_local.Goals as goal

pub returns : goal.returns
returns c = items_are_local
