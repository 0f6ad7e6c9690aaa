-- The law, proved beside the others.
use Rattle.next_laws.proofs.Falling.{reads_leave_fewer}
use Rattle.next_laws.proofs.laws.reads_leave_fewer.Goals as goal

pub returns : goal.returns
returns c = reads_leave_fewer
