-- What holds of each workflow of a document holds of each that is among them.
use Rattle.std.proofs.Common.{List, [], ◌∷◌, subst, inl, inr}
use Rattle.std.specs.Prelude.{All}
use Rattle.std.specs.List.{AllByRecursion}
use Rattle.std.proofs.lemmas.List.Elements.{recursion_from_All}
use Rattle.wf_manifest.specs.declared.manifest.Manifest.{Manifest}
use Rattle.wf_manifest.specs.Valid.{Valid}
use Rattle.growth.specs.Growth.{Among}
use Rattle.wf_bundle.specs.declared.document.Document.{Document}
use Rattle.lawful.specs.Manifests.{HasValidWorkflows}
use Rattle.wf_object.specs.Documents.{law_of}

each : (P : Manifest → Type 0) (ms : List Manifest) → AllByRecursion P ms → (x : Manifest) → Among x ms → P x
each P [] all x i = absurd i
each P (m ∷ ms) all x (inl e) = subst P e all.0
each P (m ∷ ms) all x (inr i) = each P ms all.1 x i

pub workflows_valid : (D : Document) → All Valid D.workflows → HasValidWorkflows (law_of D)
workflows_valid D all m i = each Valid D.workflows (recursion_from_All Valid D.workflows all) m i
