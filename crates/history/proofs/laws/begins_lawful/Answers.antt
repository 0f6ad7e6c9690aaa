-- The law, proved beside the others.
use Rattle.history.proofs.Carrying.{lawful_before}
use Rattle.history.proofs.laws.begins_lawful.Goals as goal

pub returns : goal.returns
returns g c = λ law. lawful_before (g.R.Rule.justified law)
