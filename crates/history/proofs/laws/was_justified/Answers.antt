-- The law, proved beside the others.
use Rattle.history.proofs.Carrying.{was_justified}
use Rattle.history.proofs.laws.was_justified.Goals as goal

pub returns : goal.returns
returns g c = λ law. was_justified (g.R.Rule.justified law)
