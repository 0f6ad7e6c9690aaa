-- The law, proved beside the others.
use Rattle.next_laws.proofs.Few.{calls_are_bounded}
use Rattle.next_laws.proofs.laws.calls_are_bounded.Goals as goal

pub returns : goal.returns
returns c = calls_are_bounded
