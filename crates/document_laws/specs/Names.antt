-- The names of a document's workflows.
use Rattle.std.specs.Prelude.{◌≡◌, Ok}
use Rattle.serde_json.specs.Data.{Data}
use Rattle.run_laws.specs.Submissions.{NamesDiffer}
use Rattle.wf_bundle.specs.declared.document.Document.{Document}
use Rattle.wf_bundle.specs.Documents.{document_of}

-- so it is in each document that a value is
abbrev pub NamesDifferIn : Type 0
NamesDifferIn = (d : Data) (D : Document) → document_of d ≡ Ok D → NamesDiffer D.workflows
