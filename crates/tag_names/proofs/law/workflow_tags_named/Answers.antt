use Rattle.tag_names.proofs.Spelled.{workflow_named}
use Rattle.tag_names.proofs.law.workflow_tags_named.Goals as goal

pub returns : goal.returns
returns c = workflow_named
