-- The law, proved beside the others.
use Rattle.history.proofs.Carrying.{onward}
use Rattle.history.proofs.laws.goes_onward.Goals as goal

pub returns : goal.returns
returns g c = λ law a. onward (g.R.Rule.justified law) (g.P.Property.holds a)
