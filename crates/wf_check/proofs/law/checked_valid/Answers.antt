use Rattle.wf_check.proofs.Checked.{checked_valid}
use Rattle.wf_check.proofs.law.checked_valid.Goals as goal

pub returns : goal.returns
returns c = checked_valid
