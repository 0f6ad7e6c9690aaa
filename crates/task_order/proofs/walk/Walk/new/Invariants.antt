-- So many places, all new.
use Rattle.std.proofs.Common.{◌≡◌, replicate}
use Rattle.task_order.specs.declared.stage.Stage.TheVariants.{New}
use Rattle.task_order.proofs.walk.Walk.new.Given as goal

abbrev pub invariant-loop : goal.invariant-loop
invariant-loop l = record { stages : l.stages.items ≡ replicate l.counter New; passed : l.passed.items ≡ replicate l.counter 0 }
