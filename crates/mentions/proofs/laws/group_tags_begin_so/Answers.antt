-- Each tag of a group begins with `steps.`.
use Rattle.mentions.proofs.GroupTags.{group_tags_begin_so}
use Rattle.mentions.proofs.laws.group_tags_begin_so.Goals as goal

pub returns : goal.returns
returns c = group_tags_begin_so
