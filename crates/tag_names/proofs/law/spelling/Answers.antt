use Rattle.tag_names.proofs.Spelled.{spells_back}
use Rattle.tag_names.proofs.law.spelling.Goals as goal

pub returns : goal.returns
returns c = spells_back
