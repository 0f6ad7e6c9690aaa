-- Facts that say nothing at a path nor below it change nothing there.
use Rattle.locality.proofs.Answered.{journals_are_local}
use Rattle.locality.proofs.facts.journals_are_local.Goals as goal

pub returns : goal.returns
returns c = journals_are_local
