use Rattle.std.proofs.Common.{◌≡◌, ℕ, ◌++◌, List, ap, subst, append_assoc, ◌∙◌, IfOk}
use Rattle.std.specs.List.{flat_map}
use Rattle.wf_manifest.specs.declared.templates.Template.{Template}
use Rattle.bundle_rules.specs.LockLimits.{lock_text}
use Rattle.bundle_rules.proofs.limits.with_locks_of.Goals as goal

pub returns : goal.returns
returns c =
    let names = c.args.names in
    let own = lock_text c.args.manifest.now.lock in
    let locks : List Template → List (List ℕ) = λ ts. flat_map (λ t. lock_text t.lock) ts in
    let ts = c.as_slice.result.now in
    subst (λ (ns : List (List ℕ)). IfOk c.with_template_locks.result (λ after. after ≡ ns))
    (ap (λ (ns : List (List ℕ)). ns ++ locks ts) c.in_ok-with_lock.ensures ∙ append_assoc names own (locks ts) ∙ ap (λ (us : List Template). names ++ (own ++ locks us)) c.as_slice.ensures)
    c.with_template_locks.ensures
