-- The law, proved beside the others.
use Rattle.next_laws.proofs.Falling.{refusals_leave_fewer}
use Rattle.next_laws.proofs.laws.refusals_leave_fewer.Goals as goal

pub returns : goal.returns
returns c = refusals_leave_fewer
