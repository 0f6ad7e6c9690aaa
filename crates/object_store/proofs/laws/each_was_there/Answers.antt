use Rattle.object_store.proofs.Versions.{each_was_there}
use Rattle.object_store.proofs.laws.each_was_there.Goals as goal

pub returns : goal.returns
returns c s = each_was_there
