-- The workflows of a document, as the law has them.
use Rattle.std.specs.Prelude.{All}
use Rattle.wf_manifest.specs.Valid.{Valid}
use Rattle.wf_bundle.specs.declared.document.Document.{Document}
use Rattle.lawful.specs.Manifests.{HasValidWorkflows}
use Rattle.wf_object.specs.Documents.{law_of}

-- where each was checked, the law's are as checked ones
abbrev pub WorkflowsAreValid : Type 0
WorkflowsAreValid = (D : Document) → All Valid D.workflows → HasValidWorkflows (law_of D)
