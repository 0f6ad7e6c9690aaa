use Rattle.wf_check.proofs.Firsts.{asked_err}
use Rattle.wf_check.proofs.law.asked_err.Goals as goal

pub returns : goal.returns
returns c = asked_err
