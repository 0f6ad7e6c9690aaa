-- The law, proved beside.
use Rattle.document_laws.proofs.Kept.{workflows_valid}
use Rattle.document_laws.proofs.laws.workflows_valid.Goals as goal

pub returns : goal.returns
returns c = workflows_valid
