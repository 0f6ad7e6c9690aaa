-- The law, proved beside the others.
use Rattle.next_laws.proofs.RoundsEnd.{rounds_end}
use Rattle.next_laws.proofs.laws.rounds_end.Goals as goal

pub returns : goal.returns
returns c = rounds_end
