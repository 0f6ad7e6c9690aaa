-- The law, proved beside the others.
use Rattle.history.proofs.Carrying.{either_first}
use Rattle.history.proofs.laws.one_begins_the_other.Goals as goal

pub returns : goal.returns
returns c s = either_first
