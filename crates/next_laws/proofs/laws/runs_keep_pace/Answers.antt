-- The law, proved beside the others.
use Rattle.next_laws.proofs.Pacing.{runs_keep_pace}
use Rattle.next_laws.proofs.laws.runs_keep_pace.Goals as goal

pub returns : goal.returns
returns c = runs_keep_pace
