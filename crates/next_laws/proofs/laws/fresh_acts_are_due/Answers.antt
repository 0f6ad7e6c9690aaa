-- The law, proved beside the others.
use Rattle.next_laws.proofs.Agreeing.{fresh_acts_are_due}
use Rattle.next_laws.proofs.laws.fresh_acts_are_due.Goals as goal

pub returns : goal.returns
returns c = fresh_acts_are_due
