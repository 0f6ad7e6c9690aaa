-- The outcome of the pod is still justified where it is accepted, and its write is the end of the job.
use Rattle.std.proofs.Common.{◌≡◌, ◌∙◌, sym}
use Rattle.wf_object.specs.Documents.{law_of}
use Rattle.wf_object.specs.Kept.{begins, justified}
use Rattle.pod_runner.proofs.Leaving.{leaves_itself}
use Rattle.pod_runner.proofs.Ending.{still, will_be, end_wrote, written_fault}
use Rattle.pod_runner.proofs.calls.finish.Goals as goal

pub returns-in_err-content-clause-leaves : goal.returns-in_err-content-clause-leaves
returns-in_err-content-clause-leaves g c = leaves_itself begins justified g.C.Client.seen g.C.Client.law g.C.Client.place g.C.Client.faults c.args.client.now

pub returns-in_err-change-clause-leaves : goal.returns-in_err-change-clause-leaves
returns-in_err-change-clause-leaves g c = leaves_itself begins justified g.C.Client.seen g.C.Client.law g.C.Client.place g.C.Client.faults c.args.client.now

pub write-answer-requires-clause-justified : goal.write-answer-requires-clause-justified
write-answer-requires-clause-justified g c =
    will_be (g.C.Client.law c.args.client.now) c.args.document.now c.requires.law (g.C.Client.seen c.args.client.now)
    c.args.seen.now c.in_ok-change.change
    (still c.args.job.now c.args.seen.now c.requires.of c.args.pod.now c.requires.pod (law_of c.args.document.now) c.args.outcome
    c.requires.next c.in_ok-change.change c.in_ok-change.ensures c.finishes_still.ensures
    (g.C.Client.seen c.args.client.now) c.requires.seen)

pub returns-clause-made : goal.returns-clause-made
returns-clause-made g c = λ told.
    end_wrote c.args.job.now c.args.seen.now c.requires.of c.args.pod.now c.requires.pod (law_of c.args.document.now)
    c.args.outcome c.requires.next c.in_ok-change.change c.in_ok-change.ensures (g.C.Client.seen c.args.client.now)
    (g.C.Client.seen c.write-answer.new.client) (g.C.Client.others c.args.client.now)
    (g.C.Client.others c.write-answer.new.client) c.write-answer.result c.write-answer.ensures.did c.written.result
    c.written.ensures told

pub returns-clause-fault : goal.returns-clause-fault
returns-clause-fault g c = λ e. c.write-answer.ensures.fault (written_fault c.write-answer.result (sym c.written.ensures ∙ e))
