use Rattle.std.proofs.Common.{◌≡◌, List, Result, Ok, Err, true, subst}
use Rattle.std.specs.Prelude.{IfOk}
use Rattle.item_reader.specs.declared.items.Item.{Item}
use Rattle.bundle_rules.specs.declared.refused.BundleRefused.{BundleRefused}
use Rattle.bundle_rules.specs.Findings.{Found, Finds}
use Rattle.wf_bundle.specs.declared.parts.Parts.{Parts}
use Rattle.wf_bundle.specs.Outcomes.{pods_differ}
use Rattle.wf_bundle.specs.Documents.{first_or, no_plan, limited, whole_asked}
use Rattle.wf_bundle.specs.Inside.Parts.{behind_found}
use Rattle.wf_bundle.proofs.Accepted.{differ_behind}
use Rattle.wf_bundle.proofs.document.accepted_parts.Goals as goal

abbrev Differ : Parts → Type 0
Differ p = pods_differ (first_or no_plan p.plans).pods ≡ true

if_found : (r : Result Parts BundleRefused) (found : Found Parts) → Finds r found → ((p : Parts) → found ≡ Ok p → Differ p) → IfOk r Differ
if_found (Ok p) found is differ = differ p is
if_found (Err refused) found is differ = tt

pub returns-clause-differ : goal.returns-clause-differ
returns-clause-differ c =
    let xs = c.args.items in
    let p = c.in_ok-parts.parts in
    let whole = subst (λ (ys : List Item). Finds c.ask_whole-whole.result (whole_asked ys)) c.as_slice.ensures c.ask_whole-whole.ensures in
    if_found c.behind.result (behind_found (whole_asked xs) p) (c.behind.ensures (whole_asked xs) whole)
    (λ q e. differ_behind (limited c.args.limits.now) xs p q c.in_ok-parts.ensures e)
