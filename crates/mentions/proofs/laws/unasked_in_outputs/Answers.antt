-- So are declared outputs.
use Rattle.mentions.proofs.Said.{unasked_in_outputs}
use Rattle.mentions.proofs.laws.unasked_in_outputs.Goals as goal

pub returns : goal.returns
returns c = unasked_in_outputs
