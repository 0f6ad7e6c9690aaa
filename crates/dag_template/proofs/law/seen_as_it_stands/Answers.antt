-- Each task is seen as it stands.
use Rattle.dag_template.proofs.Seeing.{seen_as_it_stands}
use Rattle.dag_template.proofs.law.seen_as_it_stands.Goals as goal

pub returns : goal.returns
returns c = seen_as_it_stands
