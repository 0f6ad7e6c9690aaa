-- The law, proved beside the others.
use Rattle.next_laws.proofs.Ending.{undisturbed_ends}
use Rattle.next_laws.proofs.laws.undisturbed_ends.Goals as goal

pub returns : goal.returns
returns c = undisturbed_ends
