-- A read is the next step, answered at the history that the client has seen then.
use Rattle.std.proofs.Common.{◌∙◌, sym, refl}
use Rattle.reply_laws.specs.Replies.{read_reply}
use Rattle.wf_object.specs.Documents.{law_of}
use Rattle.next_step.specs.Next.{get}
use Rattle.next_step.specs.Replies.{after}
use Rattle.reconcile_core.proofs.Stepping.{is_read, read_made, goes_on_with, ok_not_err}
use Rattle.reconcile_core.proofs.step.read.Goals as goal

pub heard-requires-clause-key : goal.heard-requires-clause-key
heard-requires-clause-key g c = is_read (law_of c.args.document.now) c.args.job.now.workflow c.args.job.now.views c.args.key.now c.args.key.now c.requires.next refl

pub returns-clause-made : goal.returns-clause-made
returns-clause-made g c = λ told.
    let h = c.heard.ensures.told told in
    read_made (law_of c.args.document.now) c.args.job.now.workflow (g.C.Client.seen c.args.client.now) c.args.job.now.views
    (g.C.Client.lag c.args.client.now) (g.C.Client.others c.args.client.now) c.args.key.now (read_reply c.get-answer.result)
    (g.C.Client.seen c.get-answer.new.client) c.heard.new.job.views (g.C.Client.lag c.get-answer.new.client)
    (g.C.Client.others c.get-answer.new.client) c.heard.result c.requires.next c.get-answer.ensures.leaves.later c.get-answer.ensures.others
    (c.get-answer.ensures.back h.answered) c.get-answer.ensures.lag h.goes h.is_told

pub returns-clause-views : goal.returns-clause-views
returns-clause-views g c = λ called.
    let h = c.heard.ensures.told (λ e. ok_not_err (sym called ∙ e)) in
    c.views_stay.ensures.reads (law_of c.args.document.now) (g.C.Client.seen c.args.client.now)
    (g.C.Client.seen c.get-answer.new.client) c.args.job.now.workflow c.args.job.now.views c.heard.new.job.views c.args.key.now
    (read_reply c.get-answer.result) c.get-answer.ensures.leaves.later c.requires.views c.requires.next (c.get-answer.ensures.read h.answered)
    (goes_on_with (after c.args.job.now.views (get c.args.key.now) (read_reply c.get-answer.result)) (read_reply c.get-answer.result)
    c.heard.new.job.views h.goes (sym h.is_told ∙ called))
