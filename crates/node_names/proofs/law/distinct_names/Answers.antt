use Rattle.node_names.proofs.Names.{distinct}
use Rattle.node_names.proofs.law.distinct_names.Goals as goal

pub returns : goal.returns
returns c = distinct
