-- One node more carries over what it does.
use Rattle.std.proofs.Common.{sym, ap, ◌∙◌}
use Rattle.meaning.specs.Answers.{Facts}
use Rattle.law.specs.Justified.{carried_by}
use Rattle.wf_object.proofs.Carried.{with_one, with_none}
use Rattle.wf_object.proofs.carrying.carried_in.Goals as goal
use Rattle.wf_object.proofs.carrying.carried_in.Goals.{in-Some+in_ok-push, in_default}

pub loop-node-preserved : goal.loop-node-preserved
loop-node-preserved c =
    let told = c.in_ok-fact.ensures ∙ ap (λ (J : Facts). carried_by J c.node-item.result) c.facts.ensures in
    elim c.match-branch-2.branch [
      | in-Some+in_ok-push w ↦ with_one c.args.state.now.facts c.args.nodes.now c.loop-node.node-index c.node-item.result c.loop-node.facts c.loop-node-test.true c.node-item.is c.loop-node.invariant w.in-Some.fact c.match-branch-2.facts (sym w.in-Some.is ∙ told) (w.facts-is ∙ w.in_ok-push.ensures.ok)
      | in_default w ↦ with_none c.args.state.now.facts c.args.nodes.now c.loop-node.node-index c.node-item.result c.loop-node.facts c.loop-node-test.true c.node-item.is c.loop-node.invariant c.match-branch-2.facts (sym w.in_default.is ∙ told) w.facts-is
    ]
