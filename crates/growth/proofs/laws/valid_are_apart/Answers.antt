-- A valid manifest whose retries have limits of 64 bits is as names need it.
use Rattle.growth.proofs.NamesApart.{valid_are_apart}
use Rattle.growth.proofs.laws.valid_are_apart.Goals as goal

pub returns : goal.returns
returns c = valid_are_apart
