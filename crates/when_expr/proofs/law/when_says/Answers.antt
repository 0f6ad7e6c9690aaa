use Rattle.when_expr.proofs.OperandFacts.{says}
use Rattle.when_expr.proofs.law.when_says.Goals as goal

pub returns : goal.returns
returns c = says
