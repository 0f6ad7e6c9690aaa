use Rattle.task_order.proofs.Ranks.{no_own_ancestor}
use Rattle.task_order.proofs.law.no_own_ancestor.Goals as goal

pub returns : goal.returns
returns c = no_own_ancestor
