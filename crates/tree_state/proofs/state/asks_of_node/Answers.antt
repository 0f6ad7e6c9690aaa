-- One want more.
use Rattle.std.proofs.Common.{◌∙◌}
use Rattle.tree_state.proofs.Sums.{asks_more}
use Rattle.tree_state.proofs.state.asks_of_node.Goals as goal

pub loop-want-preserved : goal.loop-want-preserved
loop-want-preserved c =
    c.and-asks.ensures
    ∙ asks_more c.as_slice-want-items.result.now c.loop-want.want-index c.want-item.result c.loop-want.asks c.one.result c.loop-want-test.true c.want-item.is c.loop-want.invariant c.one.ensures
