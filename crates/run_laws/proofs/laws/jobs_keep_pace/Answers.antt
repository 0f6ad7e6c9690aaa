-- The law, proved beside the others.
use Rattle.run_laws.proofs.LastRounds.{jobs_keep_pace}
use Rattle.run_laws.proofs.laws.jobs_keep_pace.Goals as goal

pub returns : goal.returns
returns c = jobs_keep_pace
