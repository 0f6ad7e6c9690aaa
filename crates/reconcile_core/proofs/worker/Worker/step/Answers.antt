-- A step of the oldest job is the step of the hand, and leaves it in that job or before the next.
use Rattle.wf_object.specs.Documents.{law_of}
use Rattle.reconcile_core.specs.Inside.{working_in}
use Rattle.reconcile_core.proofs.Working.{busy, views_of_job, worker_made, worker_seen, idle, idle_made}
use Rattle.reconcile_core.proofs.worker.Worker.step.Goals as goal

pub step-answer-requires-clause-views : goal.step-answer-requires-clause-views
step-answer-requires-clause-views g c =
    let is = busy c.self.inside.job c.self.inside.waiting.items c.in-Some.job c.args.self.now c.in-Some.is c.self.view_is in
    views_of_job (g.C.Client.seen c.args.client.now) (g.C.Client.lag c.args.client.now) c.args.self.now c.in-Some.job.workflow
    c.self.inside.waiting.items c.in-Some.job.views is c.requires.seen

pub returns-clause-made : goal.returns-clause-made
returns-clause-made g c = λ told i.
    let is = busy c.self.inside.job c.self.inside.waiting.items c.in-Some.job c.args.self.now c.in-Some.is c.self.view_is in
    worker_made (law_of c.args.document.now) (g.C.Client.seen c.args.client.now) (g.C.Client.lag c.args.client.now)
    (g.C.Client.others c.args.client.now) c.in-Some.job.workflow c.step-answer.new.job.workflow c.self.inside.waiting.items
    c.in-Some.job.views c.step-answer.new.job.views c.args.self.now c.give_way.new.self c.step-answer.result
    (g.C.Client.seen c.step-answer.new.client) (g.C.Client.lag c.step-answer.new.client)
    (g.C.Client.others c.step-answer.new.client) is c.give_way.ensures c.step-answer.ensures.workflow (c.step-answer.ensures.made told) i

pub returns-clause-seen : goal.returns-clause-seen
returns-clause-seen g c =
    worker_seen c.views_stay.ensures (g.C.Client.seen c.step-answer.new.client) (g.C.Client.lag c.step-answer.new.client)
    c.in-Some.job.workflow c.step-answer.new.job.workflow c.self.inside.waiting.items c.step-answer.new.job.views
    c.step-answer.result c.give_way.new.self c.give_way.ensures c.step-answer.ensures.workflow c.step-answer.ensures.views

pub returns-in_default-clause-made : goal.returns-in_default-clause-made
returns-in_default-clause-made g c = λ told i.
    idle_made (law_of c.args.document.now) (g.C.Client.seen c.args.client.now) (g.C.Client.lag c.args.client.now)
    (g.C.Client.others c.args.client.now) c.args.self.now (working_in c.self.inside.job c.self.inside.waiting.items) c.self.view_is
    (idle c.self.inside.job c.self.inside.waiting.items c.args.self.now c.in_default.is c.self.invariant c.self.view_is) i
