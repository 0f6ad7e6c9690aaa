-- A value that is a document breaks no rule.
use Rattle.std.proofs.Common.{◌≡◌, ◌∙◌, ℕ, ap, subst, Ok}
use Rattle.serde_json.specs.Data.{Data}
use Rattle.json_fields.specs.Paths.{Path}
use Rattle.bundle_rules.specs.Findings.{refuse, IsRefusedAs}
use Rattle.bundle_rules.specs.declared.refused.BundleRefused.{BundleRefused}
use Rattle.bundle_rules.specs.declared.refused.BundleRefused.TheVariants.{Rule}
use Rattle.wf_bundle.specs.declared.document.Document.{Document}
use Rattle.wf_bundle.specs.Documents.{document_of}

pub breaks_none : (d e : Data) (D : Document) (b : BundleRefused) (item rule : ℕ) (field : Path) → d ≡ e → document_of e ≡ Ok D → b ≡ Rule item rule field → IsRefusedAs b (document_of d) → ⊥
breaks_none d e D b item rule field same reads is refused =
    let said : document_of d ≡ refuse item rule field = subst (λ (x : BundleRefused). IsRefusedAs x (document_of d)) is refused in
    let read : document_of d ≡ Ok D = ap document_of same ∙ reads in
    absurd cc
