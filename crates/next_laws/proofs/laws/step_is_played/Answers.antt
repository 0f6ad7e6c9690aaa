-- The law, proved beside the others.
use Rattle.next_laws.proofs.Following.{step_is_played}
use Rattle.next_laws.proofs.laws.step_is_played.Goals as goal

pub returns : goal.returns
returns c = step_is_played
