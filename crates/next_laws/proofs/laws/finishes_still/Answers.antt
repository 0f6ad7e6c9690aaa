-- The law, proved beside the others.
use Rattle.next_laws.proofs.Acting.{finishes_still}
use Rattle.next_laws.proofs.laws.finishes_still.Goals as goal

pub returns : goal.returns
returns c = finishes_still
