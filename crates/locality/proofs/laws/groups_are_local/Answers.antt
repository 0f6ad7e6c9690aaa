-- All members of a group make the same.
use Rattle.locality.proofs.Rows.{groups_are_local}
use Rattle.locality.proofs.laws.groups_are_local.Goals as goal

pub returns : goal.returns
returns c = groups_are_local
