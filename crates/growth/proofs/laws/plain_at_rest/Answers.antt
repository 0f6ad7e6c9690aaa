-- The tree of a plain workflow that rests as planned is the planned one.
use Rattle.growth.proofs.Ticks.{plain_at_rest}
use Rattle.growth.proofs.laws.plain_at_rest.Goals as goal

pub returns : goal.returns
returns c = plain_at_rest
