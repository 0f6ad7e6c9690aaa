-- The law, proved beside the others.
use Rattle.next_laws.proofs.Rounds.{still_round_is_idle}
use Rattle.next_laws.proofs.laws.still_round_is_idle.Goals as goal

pub returns : goal.returns
returns c = still_round_is_idle
