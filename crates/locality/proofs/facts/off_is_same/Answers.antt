-- Off the one path that changed the same is answered, also below.
use Rattle.locality.proofs.Answered.{off_is_same}
use Rattle.locality.proofs.facts.off_is_same.Goals as goal

pub returns : goal.returns
returns c = off_is_same
