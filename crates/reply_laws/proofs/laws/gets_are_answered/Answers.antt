-- The law, proved beside the others.
use Rattle.reply_laws.proofs.Answering.{gets_are_answered}
use Rattle.reply_laws.proofs.laws.gets_are_answered.Goals as goal

pub returns : goal.returns
returns c = gets_are_answered
