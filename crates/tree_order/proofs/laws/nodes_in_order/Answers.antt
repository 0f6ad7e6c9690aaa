use Rattle.tree_order.proofs.Nodes.{nodes_in_order}
use Rattle.tree_order.proofs.laws.nodes_in_order.Goals as goal

pub returns : goal.returns
returns c = nodes_in_order
