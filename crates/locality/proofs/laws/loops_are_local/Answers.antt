-- All items of a loop make the same.
use Rattle.locality.proofs.Calls.{loops_are_local}
use Rattle.locality.proofs.laws.loops_are_local.Goals as goal

pub returns : goal.returns
returns c = loops_are_local
