use Rattle.tag_text.proofs.Cut.{split_is_cut}
use Rattle.tag_text.proofs.reading.cut_at.Goals as goal

pub returns-clause-cut : goal.returns-clause-cut
returns-clause-cut c = split_is_cut c.args.mark.now c.args.text.now c.split_once.result c.requires c.split_once.ensures.cases
