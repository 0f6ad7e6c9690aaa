-- What is made is a document.
use Rattle.generated_laws.proofs.Documents.{are_documents}
use Rattle.generated_laws.proofs.laws.are_documents.Goals as goal

pub returns : goal.returns
returns c = are_documents c.checked_valid.ensures
