-- A step of a job is the step of a hand, and keeps the pod that it read.
use Rattle.std.proofs.Common.{◌≡◌, ◌∙◌, sym, refl}
use Rattle.wf_object.specs.Documents.{law_of}
use Rattle.pod_runner.proofs.Keeping.{kept_of, kept_stands, end_step, read_step, read_of, read_stands, found_fault}
use Rattle.pod_runner.proofs.calls.step.Goals as goal

pub end-requires-clause-of : goal.end-requires-clause-of
end-requires-clause-of g c = kept_of c.args.job.now c.args.pod.now c.in-Some.seen c.in-Some.is c.requires.of

pub end-requires-clause-seen : goal.end-requires-clause-seen
end-requires-clause-seen g c =
    kept_stands c.args.job.now c.args.pod.now c.in-Some.seen c.in-Some.is c.requires.of
    (g.C.Client.seen c.args.client.now) c.requires.seen

pub returns-in-Some-clause-made : goal.returns-in-Some-clause-made
returns-in-Some-clause-made g c = λ told.
    end_step (law_of c.args.document.now) c.args.job.now c.args.pod.now c.args.pod.now c.in-Some.seen c.in-Some.is
    (g.C.Client.seen c.args.client.now) (g.C.Client.lag c.args.client.now) (g.C.Client.others c.args.client.now)
    c.end.result (g.C.Client.seen c.end.new.client) (g.C.Client.lag c.end.new.client) (g.C.Client.others c.end.new.client)
    c.end.ensures.lag (c.end.ensures.made told)

pub returns-clause-made : goal.returns-clause-made
returns-clause-made g c = λ told.
    read_step c.args.job.now (g.C.Client.seen c.args.client.now) (g.C.Client.lag c.args.client.now)
    (g.C.Client.others c.args.client.now) (g.C.Client.seen c.read-found.new.client) (g.C.Client.lag c.read-found.new.client)
    (g.C.Client.others c.read-found.new.client) (law_of c.args.document.now) c.args.pod.now c.kept.new.pod
    c.read-found.result c.kept.result c.in_default.is c.kept.ensures.told c.kept.ensures.pod c.read-found.ensures.made told

pub returns-clause-of : goal.returns-clause-of
returns-clause-of g c =
    read_of c.args.job.now (g.C.Client.seen c.args.client.now) (g.C.Client.lag c.args.client.now)
    (g.C.Client.others c.args.client.now) (g.C.Client.seen c.read-found.new.client) (g.C.Client.lag c.read-found.new.client)
    (g.C.Client.others c.read-found.new.client) (law_of c.args.document.now) c.args.pod.now c.kept.new.pod
    c.read-found.result c.kept.result c.in_default.is c.kept.ensures.told c.kept.ensures.pod c.read-found.ensures.made

pub returns-clause-seen : goal.returns-clause-seen
returns-clause-seen g c = λ called.
    read_stands c.args.job.now (g.C.Client.seen c.args.client.now) (g.C.Client.lag c.args.client.now)
    (g.C.Client.others c.args.client.now) (g.C.Client.seen c.read-found.new.client) (g.C.Client.lag c.read-found.new.client)
    (g.C.Client.others c.read-found.new.client) (law_of c.args.document.now) c.args.pod.now c.kept.new.pod
    c.read-found.result c.kept.result c.in_default.is c.kept.ensures.told c.kept.ensures.pod c.read-found.ensures.made

pub returns-clause-fault : goal.returns-clause-fault
returns-clause-fault g c = λ e. c.read-found.ensures.fault (found_fault c.read-found.result (sym c.kept.ensures.told ∙ e))
