-- The law, proved beside the others.
use Rattle.history.proofs.Carrying.{sometime_later}
use Rattle.history.proofs.laws.sometime_later.Goals as goal

pub returns : goal.returns
returns g c = λ a. sometime_later (g.P.Property.holds a)
