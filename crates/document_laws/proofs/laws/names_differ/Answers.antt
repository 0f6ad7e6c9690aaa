-- The law, proved beside.
use Rattle.document_laws.proofs.Seconds.{names_differ}
use Rattle.document_laws.proofs.laws.names_differ.Goals as goal

pub returns : goal.returns
returns c = names_differ
