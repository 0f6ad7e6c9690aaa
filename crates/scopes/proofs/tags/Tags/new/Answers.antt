use Rattle.std.proofs.Common.{ap}
use Rattle.scopes.specs.Inside.Entries.{shown}
use Rattle.scopes.proofs.tags.Tags.new.Goals as goal

pub returns : goal.returns
returns c = ap shown c.new.ensures.empty
