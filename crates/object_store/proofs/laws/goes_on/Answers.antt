use Rattle.history.proofs.Extends.{extends_itself, extends_grown, extends_later}
use Rattle.object_store.proofs.laws.goes_on.Goals as goal

pub returns : goal.returns
returns c s = record { itself = extends_itself; grows = extends_grown; later = extends_later }
