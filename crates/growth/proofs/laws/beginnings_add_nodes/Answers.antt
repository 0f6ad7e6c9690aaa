-- So many beginnings have so many nodes.
use Rattle.growth.proofs.CloseEnds.{beginnings_add_nodes}
use Rattle.growth.proofs.laws.beginnings_add_nodes.Goals as goal

pub returns : goal.returns
returns c = beginnings_add_nodes
