-- No more is asked for than there are nodes.
use Rattle.askings.proofs.WantsAreFew.{wants_are_few}
use Rattle.askings.proofs.laws.wants_are_few.Goals as goal

pub returns : goal.returns
returns c = wants_are_few
