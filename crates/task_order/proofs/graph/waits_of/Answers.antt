use Rattle.std.proofs.Common.{◌∙◌, ap, length, [], replicate, take}
use Rattle.std.proofs.lemmas.List.{length-replicate}
use Rattle.task_order.proofs.Graphs.{fold_long}
use Rattle.task_order.proofs.graph.waits_of.Goals as goal

pub add_task-requires : goal.add_task-requires
add_task-requires c =
    ap length c.loop-i.invariant
    ∙ fold_long c.args.table.now (replicate (length c.args.table.now) []) (take c.loop-i.i c.args.tasks.now)
    ∙ length-replicate (length c.args.table.now) []
