use Rattle.tree_eval.proofs.Running.{lines_meant}
use Rattle.tree_eval.proofs.law.lines_are_meant.Goals as goal

pub returns : goal.returns
returns c = lines_meant
