-- The groups that the meaning lists are those that are opened.
use Rattle.steps_template.proofs.Following.{follows}
use Rattle.steps_template.proofs.law.groups_follow.Goals as goal

pub returns : goal.returns
returns c = follows
