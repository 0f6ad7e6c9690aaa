use Rattle.object_store.proofs.Versions.{last_is_present}
use Rattle.object_store.proofs.laws.last_is_present.Goals as goal

pub returns : goal.returns
returns c s = last_is_present
