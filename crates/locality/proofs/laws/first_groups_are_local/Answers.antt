-- The first groups are the same, whatever is answered of those behind them.
use Rattle.locality.proofs.Rows.{first_groups_are_local}
use Rattle.locality.proofs.laws.first_groups_are_local.Goals as goal

pub returns : goal.returns
returns c = first_groups_are_local
