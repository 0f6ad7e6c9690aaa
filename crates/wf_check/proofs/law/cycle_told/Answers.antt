use Rattle.wf_check.proofs.Circles.{cycle_told}
use Rattle.wf_check.proofs.law.cycle_told.Goals as goal

pub returns : goal.returns
returns c = cycle_told
