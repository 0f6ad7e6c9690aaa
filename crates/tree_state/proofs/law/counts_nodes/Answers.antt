use Rattle.tree_state.proofs.Counts.{counted}
use Rattle.tree_state.proofs.law.counts_nodes.Goals as goal

pub returns : goal.returns
returns c = counted
