use Rattle.task_order.proofs.Steps.{table_more}
use Rattle.task_order.proofs.names.table_of.Goals as goal

pub loop-i-preserved : goal.loop-i-preserved
loop-i-preserved c =
    table_more c.args.tasks.now c.loop-i.i c.index-tasks-i.result c.loop-i.table c.add.new.self c.as_str.result.now
    c.loop-i-test.true c.as_str.ensures c.loop-i.invariant c.in_ok-add.ensures
