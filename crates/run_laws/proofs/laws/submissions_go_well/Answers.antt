-- The law, proved beside the others.
use Rattle.run_laws.proofs.Submissions.{submissions_go_well}
use Rattle.run_laws.proofs.laws.submissions_go_well.Goals as goal

pub returns : goal.returns
returns c = submissions_go_well
