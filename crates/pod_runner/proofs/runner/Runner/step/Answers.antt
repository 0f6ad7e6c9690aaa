-- A step of the oldest job is the step of the runner's hand.
use Rattle.std.proofs.Common.{◌≡◌, ◌∙◌, sym, Some, None}
use Rattle.wf_object.specs.Documents.{law_of}
use Rattle.pod_runner.specs.Inside.{pod_seen}
use Rattle.pod_runner.proofs.Running.{first_is, of_first, called_made, next_made, not_called, is_ok_called, viewed_has_pod, viewed_idle}
use Rattle.pod_runner.proofs.runner.Runner.step.Goals as goal

pub step-answer-requires-clause-of : goal.step-answer-requires-clause-of
step-answer-requires-clause-of g c =
    of_first c.self.inside.jobs.items c.in-Some.job.now
    (first_is c.self.inside.jobs.items c.front.result c.in-Some.job c.front.ensures.item c.in-Some.is) c.self.inside.pod
    c.self.invariant

pub step-answer-requires-clause-seen : goal.step-answer-requires-clause-seen
step-answer-requires-clause-seen g c =
    viewed_has_pod c.self.inside.jobs.items c.in-Some.job.now
    (first_is c.self.inside.jobs.items c.front.result c.in-Some.job c.front.ensures.item c.in-Some.is)
    (g.C.Client.seen c.args.client.now) (g.C.Client.lag c.args.client.now) (pod_seen c.self.inside.pod) c.args.self.now
    c.self.view_is c.requires.seen

pub returns-in_default-clause-made : goal.returns-in_default-clause-made
returns-in_default-clause-made g c = λ told i.
    viewed_idle (law_of c.args.document.now) i (g.C.Client.seen c.args.client.now) (g.C.Client.lag c.args.client.now)
    (g.C.Client.others c.args.client.now) c.self.inside.jobs.items (pod_seen c.self.inside.pod) c.args.self.now c.self.view_is
    c.front.result c.front.ensures.item c.in_default.is

pub returns-then-goes_on-clause-made : goal.returns-then-goes_on-clause-made
returns-then-goes_on-clause-made g c = λ told i.
    called_made c.self.inside.jobs.items c.in-Some.job.now
    (first_is c.self.inside.jobs.items c.front.result c.in-Some.job c.front.ensures.item c.in-Some.is)
    (law_of c.args.document.now) (g.C.Client.seen c.args.client.now) (pod_seen c.self.inside.pod) c.args.self.now
    c.self.view_is (g.C.Client.lag c.args.client.now) (g.C.Client.others c.args.client.now) c.step-answer.result
    (g.C.Client.seen c.step-answer.new.client) (pod_seen c.step-answer.new.pod) (g.C.Client.lag c.step-answer.new.client)
    (g.C.Client.others c.step-answer.new.client) c.step-answer.ensures.made
    (is_ok_called c.step-answer.result (sym c.goes_on.ensures ∙ c.if-goes_on.true)) i

pub returns-clause-made : goal.returns-clause-made
returns-clause-made g c = λ told i.
    next_made c.self.inside.jobs.items c.in-Some.job.now
    (first_is c.self.inside.jobs.items c.front.result c.in-Some.job c.front.ensures.item c.in-Some.is)
    (law_of c.args.document.now) (g.C.Client.seen c.args.client.now) (pod_seen c.self.inside.pod) c.args.self.now
    c.self.view_is (g.C.Client.lag c.args.client.now) (g.C.Client.others c.args.client.now) c.step-answer.result
    (g.C.Client.seen c.step-answer.new.client) (pod_seen c.step-answer.new.pod) (g.C.Client.lag c.step-answer.new.client)
    (g.C.Client.others c.step-answer.new.client) c.step-answer.ensures.made
    (not_called c.step-answer.result (sym c.goes_on.ensures ∙ c.if-goes_on.false)) told c.begin_next.new.self
    c.begin_next.ensures i
