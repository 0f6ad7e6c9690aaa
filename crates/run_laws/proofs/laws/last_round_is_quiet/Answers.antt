-- The law, proved beside the others.
use Rattle.run_laws.proofs.LastRounds.{last_round_is_quiet}
use Rattle.run_laws.proofs.laws.last_round_is_quiet.Goals as goal

pub returns : goal.returns
returns c = last_round_is_quiet
