-- No more calls than nodes.
use Rattle.std.proofs.Common.{◌-◌, inr, arith}
use Rattle.dag_stays.proofs.Halving.{no_more}
use Rattle.dag_stays.proofs.sought.most_up_to.Goals as goal

pub returns-then-nodes-j-clause-bound : goal.returns-then-nodes-j-clause-bound
returns-then-nodes-j-clause-bound c = inr (no_more c.args.dag.now.parts (c.count-nodes.result - 1) (omega (arith, c.count-nodes.ensures.all)))
