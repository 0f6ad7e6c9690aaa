-- The law, proved beside the others.
use Rattle.history.proofs.Carrying.{clock_rises}
use Rattle.history.proofs.laws.clock_rises.Goals as goal

pub returns : goal.returns
returns g c = λ law. clock_rises (g.R.Rule.justified law)
