-- The law, proved beside the others.
use Rattle.reply_laws.proofs.Answering.{creates_are_done}
use Rattle.reply_laws.proofs.laws.creates_are_done.Goals as goal

pub returns : goal.returns
returns c = creates_are_done
