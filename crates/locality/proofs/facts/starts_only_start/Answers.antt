-- A recorded start changes nothing that is answered at a path.
use Rattle.locality.proofs.Answered.{starts_only_start}
use Rattle.locality.proofs.facts.starts_only_start.Goals as goal

pub returns : goal.returns
returns c = starts_only_start
