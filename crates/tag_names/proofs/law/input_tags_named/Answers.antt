use Rattle.tag_names.proofs.Spelled.{inputs_named}
use Rattle.tag_names.proofs.law.input_tags_named.Goals as goal

pub returns : goal.returns
returns c = inputs_named
