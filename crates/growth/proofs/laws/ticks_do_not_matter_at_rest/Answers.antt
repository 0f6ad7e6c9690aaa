-- Ticks do not matter to a plain manifest that rests unfinished.
use Rattle.growth.proofs.Ticks.{ticks_do_not_matter_at_rest}
use Rattle.growth.proofs.laws.ticks_do_not_matter_at_rest.Goals as goal

pub returns : goal.returns
returns c = ticks_do_not_matter_at_rest
