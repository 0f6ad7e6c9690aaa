use Rattle.std.proofs.Common.{arith}
use Rattle.std.proofs.lemmas.Str.Pattern.{split_parts}
use Rattle.tag_names.proofs.Fronts.{split_at_dot}
use Rattle.tag_names.proofs.naming.at_dot.Goals as goal

pub returns : goal.returns
returns c =
    split_at_dot c.args.text.now c.split_once.result
    (split_parts 46 c.args.text.now c.split_once.result c.split_once.ensures.cases (omega arith))
