use Rattle.std.proofs.Common.{◌∙◌, ap, sym, not, ◌&&◌, bytes_eq}
use Rattle.std.specs.Map.{lookup}
use Rattle.indexmap.proofs.CallerLemmas.{insert_entry-new}
use Rattle.wf_bundle.specs.declared.outcomes.PodName.{PodName}
use Rattle.wf_bundle.specs.Inside.Pods.{is_pod_named, pods_of}
use Rattle.wf_bundle.proofs.Kept.{is_kept, no_value, pod_added}
use Rattle.wf_bundle.proofs.outcomes.add.Goals as goal

pub returns-then-contains_key-clause-told : goal.returns-then-contains_key-clause-told
returns-then-contains_key-clause-told c =
    ap not (sym (is_kept c.args.pod c.args.pods.now.entries ∙ sym c.if-contains_key.ensures))

pub returns-clause-told : goal.returns-clause-told
returns-clause-told c =
    ap not (sym (is_kept c.args.pod c.args.pods.now.entries ∙ sym c.if-contains_key.ensures))

pub returns-clause-kept : goal.returns-clause-kept
returns-clause-kept c = λ _.
    let pod = c.args.pod in
    let es = c.args.pods.now.entries in
    let name : PodName = record { workflow = pod.workflow; node = pod.node } in
    let none = no_value (lookup (is_pod_named pod.workflow pod.node) es) (sym c.if-contains_key.ensures) in
    ap pods_of (c.in_ok-insert.ensures.entries ∙ insert_entry-new (λ a b. bytes_eq a.workflow b.workflow && bytes_eq a.node b.node) c.args.pods.now name pod.outcome none)
    ∙ pod_added es pod
