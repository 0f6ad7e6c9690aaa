-- The task at a position.
use Rattle.std.proofs.Common.{◌∙◌}
use Rattle.dag_template.proofs.Places.{covers_got}
use Rattle.dag_template.proofs.judging.covers_at.Goals as goal

pub returns : goal.returns
returns c = c.covers.ensures ∙ covers_got c.args.tasks.now c.args.place c.index-tasks-place.result c.requires
