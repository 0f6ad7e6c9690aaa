-- The manifests of workflows are as checked ones.
use Rattle.wf_manifest.specs.declared.manifest.Manifest.{Manifest}
use Rattle.wf_manifest.specs.Valid.{Valid}
use Rattle.growth.specs.Growth.{Among}
use Rattle.law.specs.Documents.{Text, Document}
use Rattle.law.specs.Contents.{Flow, Story, HasFlow}
use Rattle.law.specs.Justified.{IsLawful}

-- each workflow of the document keeps what a checked manifest does
abbrev pub HasValidWorkflows : Document → Type 0
HasValidWorkflows D = (m : Manifest) → Among m D.workflows → Valid m

-- so does each workflow of a lawful history: a resubmission gives the manifest another name and creation alone
abbrev pub ManifestsValid : Type 0
ManifestsValid =
    (D : Document) (h : Story) (w : Text) (f : Flow) → HasValidWorkflows D → IsLawful D h → HasFlow h w f →
    Valid f.manifest
