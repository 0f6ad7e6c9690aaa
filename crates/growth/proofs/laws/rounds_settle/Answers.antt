-- A list that solves the equations of a DAG whose tasks have a rank is its standings.
use Rattle.growth.proofs.RoundsSettle.{rounds_settle}
use Rattle.growth.proofs.laws.rounds_settle.Goals as goal

pub returns : goal.returns
returns c = rounds_settle
