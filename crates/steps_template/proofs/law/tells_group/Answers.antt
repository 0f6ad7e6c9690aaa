-- The groups that the meaning lists are those that are opened.
use Rattle.steps_template.proofs.Following.{tells_one}
use Rattle.steps_template.proofs.law.tells_group.Goals as goal

pub returns : goal.returns
returns c = tells_one
