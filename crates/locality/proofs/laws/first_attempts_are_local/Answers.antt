-- The first attempts are the same, whatever is answered of those behind them.
use Rattle.locality.proofs.Leaves.{first_attempts_are_local}
use Rattle.locality.proofs.laws.first_attempts_are_local.Goals as goal

pub returns : goal.returns
returns c = first_attempts_are_local
