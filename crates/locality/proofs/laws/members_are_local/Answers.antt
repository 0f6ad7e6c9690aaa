-- A member of a group makes the same, whatever is answered of the others.
use Rattle.locality.proofs.Rows.{members_are_local}
use Rattle.locality.proofs.laws.members_are_local.Goals as goal

pub returns : goal.returns
returns c = members_are_local
