use Rattle.wf_check.proofs.Firsts.{asked_ok}
use Rattle.wf_check.proofs.law.asked_ok.Goals as goal

pub returns : goal.returns
returns c = asked_ok
