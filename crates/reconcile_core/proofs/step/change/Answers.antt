-- A change is the next step, answered at a history that goes on from what the client had seen; or its fact makes too large a
-- tree, and nothing is called.
use Rattle.std.proofs.Common.{◌∙◌, sym}
use Rattle.reply_laws.specs.Replies.{change_reply}
use Rattle.wf_object.specs.Documents.{law_of}
use Rattle.next_step.specs.Next.{act}
use Rattle.next_step.specs.Replies.{after}
use Rattle.worker_job.specs.Told.{matter_told}
use Rattle.reconcile_core.proofs.Stepping.{change_made, refused_made, goes_on_with, ok_not_err, err_is}
use Rattle.reconcile_core.specs.Answers.{fault_of}
use Rattle.reconcile_core.proofs.GoingOn.{answer_goes_on, answer_saves, answer_locks}
use Rattle.reconcile_core.proofs.step.change.Goals as goal

pub answered-requires-clause-goes_on : goal.answered-requires-clause-goes_on
answered-requires-clause-goes_on g c =
    answer_goes_on c.args.job.now.workflow c.args.job.now.views (matter_told c.args.matter.now) c.in_ok-plan.plan c.perform-answer.result
    c.in_ok-plan.ensures c.perform-answer.ensures.content

pub answered-requires-clause-saved : goal.answered-requires-clause-saved
answered-requires-clause-saved g c =
    answer_saves c.args.job.now.workflow c.args.job.now.views (matter_told c.args.matter.now) c.in_ok-plan.plan c.perform-answer.result
    c.in_ok-plan.ensures c.perform-answer.ensures.content

pub answered-requires-clause-locks : goal.answered-requires-clause-locks
answered-requires-clause-locks g c =
    answer_locks c.args.job.now.workflow c.args.job.now.views (matter_told c.args.matter.now) c.in_ok-plan.plan c.perform-answer.result
    c.in_ok-plan.ensures c.perform-answer.ensures.content

pub returns-in_err-plan-clause-made : goal.returns-in_err-plan-clause-made
returns-in_err-plan-clause-made g c = λ told.
    refused_made (law_of c.args.document.now) c.args.job.now.workflow (g.C.Client.seen c.args.client.now)
    c.args.job.now.views (g.C.Client.lag c.args.client.now) (g.C.Client.others c.args.client.now)
    (matter_told c.args.matter.now) c.args.job.now.views c.in_err-plan.field-0.0 c.from_residual.result c.requires.next
    c.in_err-plan.ensures (err_is c.from_residual.result (fault_of c.in_err-plan.field-0.0) c.from_residual.ensures.1) told

pub returns-clause-made : goal.returns-clause-made
returns-clause-made g c = λ told.
    let h = c.answered.ensures.told told in
    let d = c.perform-answer.ensures.did h.answered in
    change_made (law_of c.args.document.now) c.args.job.now.workflow (g.C.Client.seen c.args.client.now) c.args.job.now.views
    (g.C.Client.lag c.args.client.now) (g.C.Client.others c.args.client.now) (matter_told c.args.matter.now) d.flow d.facts
    (change_reply c.perform-answer.result) (g.C.Client.seen c.perform-answer.new.client) c.answered.new.job.views
    (g.C.Client.lag c.perform-answer.new.client) (g.C.Client.others c.perform-answer.new.client) c.answered.result c.requires.next d.viewed
    d.adds d.did c.perform-answer.ensures.lag h.goes h.is_told

pub returns-clause-views : goal.returns-clause-views
returns-clause-views g c = λ called.
    let h = c.answered.ensures.told (λ e. ok_not_err (sym called ∙ e)) in
    let d = c.perform-answer.ensures.did h.answered in
    c.views_stay.ensures.acts (law_of c.args.document.now) (g.C.Client.seen c.args.client.now) d.did.at
    (g.C.Client.seen c.perform-answer.new.client) c.args.job.now.workflow c.args.job.now.views c.answered.new.job.views d.flow d.facts
    (matter_told c.args.matter.now) (change_reply c.perform-answer.result) d.did.later c.requires.views d.viewed c.requires.next
    d.did.did
    (goes_on_with (after c.args.job.now.views (act (matter_told c.args.matter.now)) (change_reply c.perform-answer.result))
    (change_reply c.perform-answer.result) c.answered.new.job.views h.goes (sym h.is_told ∙ called))
