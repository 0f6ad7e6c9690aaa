-- The law, proved beside the others.
use Rattle.history.proofs.Carrying.{by_entries}
use Rattle.history.proofs.laws.by_entries.Goals as goal

pub returns : goal.returns
returns g c = λ law a. by_entries (g.R.Rule.justified law) (g.P.Property.holds a)
