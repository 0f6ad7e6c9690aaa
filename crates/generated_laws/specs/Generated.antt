-- That what is made by a number is a document.
use Rattle.std.specs.Prelude.{◌≡◌, ℕ, ◌≤◌, List, [], Ok, map, All}
use Rattle.base_types.specs.Limits.{most_size}
use Rattle.wf_manifest.specs.Valid.{Valid}
use Rattle.wf_bundle.specs.declared.document.Document.{Document}
use Rattle.wf_bundle.specs.Documents.{document_of}
use Rattle.generator.specs.declared.draws.Drawn.{Drawn}
use Rattle.generator.specs.Draws.{drawn}
use Rattle.generator.specs.Bundles.{name, bundle}

-- the names of the workflows that are drawn
abbrev pub names_drawn : List Drawn → List (List ℕ)
names_drawn ds = map (λ d. name d.position) ds

-- what the document of a seed reads as
pub record IsDocument (seed size : ℕ) : Type 0 where
  pub read : Document
  pub reads : document_of (bundle seed size) ≡ Ok read
  pub workflows : map (λ m. m.name) read.workflows ≡ names_drawn (drawn seed 0 size)
  pub valid : All Valid read.workflows
  pub no_commands : read.commands ≡ []

abbrev pub AreDocuments : Type 0
AreDocuments = (seed size : ℕ) → size ≤ most_size → IsDocument seed size
