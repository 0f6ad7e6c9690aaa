-- A fact that is next is new.
use Rattle.std.proofs.Common.{◌∙◌, ap}
use Rattle.tree_types.specs.Journals.{knows}
use Rattle.next_step.specs.Replies.{seen}
use Rattle.reconcile_core.proofs.Planning.{shown_flow, new_fact}
use Rattle.reconcile_core.proofs.plan.record.Goals as goal

pub add-requires : goal.add-requires
add-requires c =
    let s = c.in-Some.seen.now in
    let f = c.in-Some-workflow.object.now in
    let viewed = shown_flow s c.args.job.now.workflow c.args.job.now.views.flow c.in-Some.ensures f c.in-Some-workflow.ensures in
    ap (knows f.journal) c.in_ok-copy.ensures
    ∙ new_fact c.args.job.now.workflow c.args.job.now.views c.act_is_new.ensures c.args.fact.now c.requires (seen s.version f s.tick) viewed
