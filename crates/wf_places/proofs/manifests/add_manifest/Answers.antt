use Rattle.std.proofs.Common.{◌≡◌, ◌++◌, ℕ, List, ap, ◌∙◌, subst}
use Rattle.std.specs.Prelude.{OnOk, codes}
use Rattle.wf_manifest.specs.declared.templates.Template.{Template}
use Rattle.wf_places.specs.Broken.{plain_places}
use Rattle.wf_places.specs.Places.{entered_places, ended_places, templates_places}
use Rattle.wf_places.specs.Inside.Views.{around_workflow}
use Rattle.wf_places.proofs.Positions.{added, then_added}
use Rattle.wf_places.proofs.manifests.add_manifest.Goals as goal

pub returns : goal.returns
returns c =
    let m = c.args.manifest.now in
    let limited = c.args.limits.now in
    let a = around_workflow c.args.outside.now in
    let out = c.args.out.now.items in
    let r = c.add_templates.result in
    let new = c.add_templates.new.out.items in
    let mid = c.add_ended.new.out.items in
    let one = plain_places (codes "metadata.namespace") m.namespace in
    let two = entered_places a m in
    let three = ended_places limited a m in
    let first : c.add_plain.new.out.items ≡ out ++ one =
    c.in_ok-add_plain.ensures ∙ ap (λ (p : List ℕ). out ++ plain_places p m.namespace) c.in_ok-namespace.ensures in
    let second = added out c.add_plain.new.out.items c.add_entered.new.out.items one two first c.in_ok-add_entered.ensures in
    let third = added out c.add_entered.new.out.items mid (one ++ two) three second c.in_ok-add_ended.ensures in
    let at_path : OnOk r (new ≡ mid ++ templates_places limited a (codes "spec.templates") 0 c.as_slice.result.now) =
    subst (λ (p : List ℕ). OnOk r (new ≡ mid ++ templates_places limited a p 0 c.as_slice.result.now)) c.in_ok-templates.ensures c.add_templates.ensures in
    let last : OnOk r (new ≡ mid ++ templates_places limited a (codes "spec.templates") 0 m.templates) =
    subst (λ (ts : List Template). OnOk r (new ≡ mid ++ templates_places limited a (codes "spec.templates") 0 ts)) c.as_slice.ensures at_path in
    then_added r out mid new ((one ++ two) ++ three) (templates_places limited a (codes "spec.templates") 0 m.templates) third last
