use Rattle.object_store.proofs.Seen.{seen_stands}
use Rattle.object_store.proofs.laws.seen_stands.Goals as goal

pub returns : goal.returns
returns c s = seen_stands
