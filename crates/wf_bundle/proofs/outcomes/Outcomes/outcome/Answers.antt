use Rattle.std.proofs.Common.{◌∙◌, ap, sym}
use Rattle.wf_bundle.specs.Outcomes.{or_default, planned_for}
use Rattle.wf_bundle.proofs.Kept.{named_kept}
use Rattle.wf_bundle.proofs.outcomes.Outcomes.outcome.Goals as goal

pub returns-in-Some : goal.returns-in-Some
returns-in-Some c =
    let workflow = c.args.workflow.now in
    let node = c.args.node.now in
    ap (or_default c.self.inside.default) (c.in-Some.ensures.value ∙ sym (named_kept workflow node c.self.inside.pods.entries))
    ∙ ap (λ plan. planned_for plan workflow node) c.self.view_is

pub returns-in-None : goal.returns-in-None
returns-in-None c =
    let workflow = c.args.workflow.now in
    let node = c.args.node.now in
    c.as_ref.ensures.value
    ∙ ap (or_default c.self.inside.default) (c.in-None.ensures.value ∙ sym (named_kept workflow node c.self.inside.pods.entries))
    ∙ ap (λ plan. planned_for plan workflow node) c.self.view_is
