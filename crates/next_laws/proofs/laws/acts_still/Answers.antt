-- The law, proved beside the others.
use Rattle.next_laws.proofs.Acting.{acts_still}
use Rattle.next_laws.proofs.laws.acts_still.Goals as goal

pub returns : goal.returns
returns c = acts_still
