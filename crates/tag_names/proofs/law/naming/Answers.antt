use Rattle.tag_names.proofs.Spelled.{is_named}
use Rattle.tag_names.proofs.law.naming.Goals as goal

pub returns : goal.returns
returns c = is_named
