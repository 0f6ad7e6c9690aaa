-- The same groups are made, with the same scope behind them.
use Rattle.locality.proofs.Rows.{steps_are_local}
use Rattle.locality.proofs.laws.steps_are_local.Goals as goal

pub returns : goal.returns
returns c = steps_are_local
