use Rattle.depends_expr.proofs.Numberings.{numbers_next}
use Rattle.depends_expr.proofs.numbering.number.Goals as goal

pub loop-step-preserved : goal.loop-step-preserved
loop-step-preserved c = numbers_next c.loop-step.table c.number_step.new.table c.loop-step.numbered c.push.new.self c.args.steps.now c.loop-step.step-index c.in_ok-number_step.field-0 c.step-item.result c.loop-step.invariant c.in_ok-number_step.ensures c.in_ok-push.ensures.ok c.loop-step-test.true c.step-item.is
