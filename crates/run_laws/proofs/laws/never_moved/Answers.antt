-- The law, proved beside the others.
use Rattle.run_laws.proofs.NeverMoved.{never_moved}
use Rattle.run_laws.proofs.laws.never_moved.Goals as goal

pub returns : goal.returns
returns c = never_moved
