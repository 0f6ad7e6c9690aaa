use Rattle.pod_laws.proofs.Names.{names_are_kept}
use Rattle.pod_laws.proofs.laws.names_are_kept.Goals as goal

pub returns : goal.returns
returns c = names_are_kept
