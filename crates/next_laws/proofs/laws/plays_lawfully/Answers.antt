-- The law, proved beside the others.
use Rattle.next_laws.proofs.Playing.{plays_lawfully}
use Rattle.next_laws.proofs.laws.plays_lawfully.Goals as goal

pub returns : goal.returns
returns c = plays_lawfully
