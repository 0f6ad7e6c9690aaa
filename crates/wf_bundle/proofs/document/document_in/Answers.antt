use Rattle.std.proofs.Common.{◌≡◌, List, sym, ap, ◌∙◌, subst}
use Rattle.tree_types.specs.declared.entry.Limit.{Limit}
use Rattle.bundle_rules.specs.Findings.{Finds}
use Rattle.bundle_rules.specs.LockLimits.{limits_of}
use Rattle.wf_bundle.specs.Documents.{limited}
use Rattle.wf_bundle.specs.Inside.Parts.{accepted, made}
use Rattle.wf_bundle.proofs.Accepted.{document_is}
use Rattle.wf_bundle.proofs.document.document_in.Goals as goal

pub returns : goal.returns
returns c =
    let xs = c.args.items in
    let limits = c.in_ok-limits.limits in
    let is : limits ≡ limits_of xs = c.in_ok-limits.ensures ∙ ap limits_of c.as_slice.ensures in
    subst (Finds c.made.result)
    (ap (λ (ls : List Limit). made ls (accepted (limited ls) xs)) is ∙ sym (document_is xs))
    (c.made.ensures (accepted (limited limits) xs) c.accepted_parts-accepted.ensures.told)
