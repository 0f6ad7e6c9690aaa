-- Each tag of a task's ancestors begins with `tasks.`.
use Rattle.mentions.proofs.TaskTags.{task_tags_begin_so}
use Rattle.mentions.proofs.laws.task_tags_begin_so.Goals as goal

pub returns : goal.returns
returns c = task_tags_begin_so
