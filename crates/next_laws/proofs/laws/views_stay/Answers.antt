-- The law, proved beside the others.
use Rattle.next_laws.proofs.Viewing.{views_stay}
use Rattle.next_laws.proofs.laws.views_stay.Goals as goal

pub returns : goal.returns
returns c = views_stay
