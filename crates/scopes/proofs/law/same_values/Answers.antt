use Rattle.scopes.proofs.Said.{said_alike}
use Rattle.scopes.proofs.law.same_values.Goals as goal

pub returns : goal.returns
returns c = said_alike
