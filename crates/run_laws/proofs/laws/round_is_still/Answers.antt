-- The law, proved beside the others.
use Rattle.run_laws.proofs.Fulls.{round_is_still}
use Rattle.run_laws.proofs.laws.round_is_still.Goals as goal

pub returns : goal.returns
returns c = round_is_still
