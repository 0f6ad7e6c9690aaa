use Rattle.std.proofs.Common.{sym}
use Rattle.tree_state.proofs.Kids.{then_nothing}
use Rattle.tree_state.proofs.Inserts.{kids_more}
use Rattle.tree_state.proofs.filled.Filled.add_kids.Goals as goal

pub loop-kid-init : goal.loop-kid-init
loop-kid-init c = sym (then_nothing c.args.self.now)

pub loop-kid-preserved : goal.loop-kid-preserved
loop-kid-preserved c = kids_more c.args.self.now c.args.kids.now c.loop-kid.kid-index c.kid-item.result c.in_ok-shared.field-0 c.loop-kid.self c.add.new.self c.loop-kid-test.true c.kid-item.is c.in_ok-shared.ensures c.loop-kid.invariant c.in_ok-add.ensures
