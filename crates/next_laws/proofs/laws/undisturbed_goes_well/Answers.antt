-- The law, proved beside the others.
use Rattle.next_laws.proofs.Rounds.{undisturbed_goes_well}
use Rattle.next_laws.proofs.laws.undisturbed_goes_well.Goals as goal

pub returns : goal.returns
returns c = undisturbed_goes_well
