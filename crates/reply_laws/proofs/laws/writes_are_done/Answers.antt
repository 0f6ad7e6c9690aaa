-- The law, proved beside the others.
use Rattle.reply_laws.proofs.Answering.{writes_are_done}
use Rattle.reply_laws.proofs.laws.writes_are_done.Goals as goal

pub returns : goal.returns
returns c = writes_are_done
