-- A call makes the same where it does not ask for the tags that differ.
use Rattle.mentions.proofs.Calls.{unasked_in_calls}
use Rattle.mentions.proofs.laws.unasked_in_calls.Goals as goal

pub returns : goal.returns
returns c = unasked_in_calls
