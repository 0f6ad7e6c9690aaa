-- The law, proved beside the others.
use Rattle.run_laws.proofs.Rounds.{rounds_are_done}
use Rattle.run_laws.proofs.laws.rounds_are_done.Goals as goal

pub returns : goal.returns
returns c = rounds_are_done
