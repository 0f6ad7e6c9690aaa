-- The same of what follows its lock.
use Rattle.locality.proofs.Calls.{memos_are_local}
use Rattle.locality.proofs.laws.memos_are_local.Goals as goal

pub returns : goal.returns
returns c = memos_are_local
