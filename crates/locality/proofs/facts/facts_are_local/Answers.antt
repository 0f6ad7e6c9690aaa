-- A recorded fact of a path changes what is answered at this path alone.
use Rattle.locality.proofs.Answered.{facts_are_local}
use Rattle.locality.proofs.facts.facts_are_local.Goals as goal

pub returns : goal.returns
returns c = facts_are_local
