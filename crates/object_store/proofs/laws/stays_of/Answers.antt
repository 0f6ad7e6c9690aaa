use Rattle.history.proofs.Extends.{is_version_later}
use Rattle.object_store.proofs.laws.stays_of.Goals as goal

pub returns : goal.returns
returns c s = is_version_later
