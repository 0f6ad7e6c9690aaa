-- A loop that closes a journal ends, or passes the bound on the nodes.
use Rattle.growth.proofs.CloseEnds.{close_ends}
use Rattle.growth.proofs.laws.close_ends.Goals as goal

pub returns : goal.returns
returns c = close_ends
