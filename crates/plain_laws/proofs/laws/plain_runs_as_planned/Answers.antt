-- The law, proved beside.
use Rattle.plain_laws.proofs.Plain.{plain_runs_as_planned}
use Rattle.plain_laws.proofs.laws.plain_runs_as_planned.Goals as goal

pub returns : goal.returns
returns c = plain_runs_as_planned
