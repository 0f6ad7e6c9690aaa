use Rattle.tree_state.proofs.Inserts.{kids_end}
use Rattle.tree_state.proofs.inserting.position.Goals as goal

pub loop-i-preserved : goal.loop-i-preserved
loop-i-preserved c = kids_end c.args.at c.args.kids.now c.loop-i.i c.index-kids-i.result c.loop-i-test.true c.index-kids-i.is c.loop-i.invariant (c.ends_later.ensures c.if-ends_later.false)
