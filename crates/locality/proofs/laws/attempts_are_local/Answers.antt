-- Attempts are the same, and so is what follows the last of them.
use Rattle.locality.proofs.Leaves.{attempts_are_local}
use Rattle.locality.proofs.laws.attempts_are_local.Goals as goal

pub returns : goal.returns
returns c = attempts_are_local
