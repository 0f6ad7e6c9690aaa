-- The law, proved beside the others.
use Rattle.next_laws.proofs.VersionsCounted.{reads_back}
use Rattle.next_laws.proofs.laws.reads_back.Goals as goal

pub returns : goal.returns
returns c = reads_back
