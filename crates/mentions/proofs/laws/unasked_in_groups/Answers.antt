-- So do the calls of a group.
use Rattle.mentions.proofs.Calls.{unasked_in_groups}
use Rattle.mentions.proofs.laws.unasked_in_groups.Goals as goal

pub returns : goal.returns
returns c = unasked_in_groups
