use Rattle.depends_expr.proofs.Words.{too_long}
use Rattle.depends_expr.proofs.spelling.begins.Goals as goal

pub returns-then-part-text : goal.returns-then-part-text
returns-then-part-text c = too_long c.args.part.now c.args.text.now c.if-part-text.true
