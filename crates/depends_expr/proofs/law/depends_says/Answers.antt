use Rattle.depends_expr.proofs.OperandFacts.{says}
use Rattle.depends_expr.proofs.law.depends_says.Goals as goal

pub returns : goal.returns
returns c = says
