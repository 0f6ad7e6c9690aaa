use Rattle.std.proofs.Common.{◌≡◌, List, Result, Ok, Err}
use Rattle.std.specs.Prelude.{All, IfOk}
use Rattle.item_reader.specs.declared.items.Item.{Item}
use Rattle.bundle_rules.specs.declared.refused.BundleRefused.{BundleRefused}
use Rattle.bundle_rules.specs.Findings.{Finds}
use Rattle.wf_manifest.specs.Valid.{Valid}
use Rattle.wf_bundle.specs.declared.document.Document.{Document}
use Rattle.wf_bundle.specs.Documents.{document_in}
use Rattle.wf_bundle.proofs.Accepted.{accepted_valid}
use Rattle.wf_bundle.proofs.document.read_bundle.Goals as goal

if_found : (xs : List Item) (r : Result Document BundleRefused) → Finds r (document_in xs) → ((D : Document) → document_in xs ≡ Ok D → All Valid D.workflows) → IfOk r (λ D. All Valid D.workflows)
if_found xs (Ok D) found valid = valid D found
if_found xs (Err refused) found valid = tt

pub returns-clause-valid : goal.returns-clause-valid
returns-clause-valid c =
    let xs = c.in_ok-items.items in
    if_found xs c.document_in.result c.document_in.ensures
    (λ D e. accepted_valid c.reads_short.ensures c.checked_valid.ensures _ xs D c.in_ok-items.ensures.items e)
