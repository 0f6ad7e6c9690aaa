-- A read is answered at the history that the client has seen then.
use Rattle.std.proofs.Common.{◌≡◌, ◌∙◌, sym}
use Rattle.wf_object.specs.Kept.{begins, justified}
use Rattle.pod_runner.proofs.Leaving.{leaves_itself}
use Rattle.pod_runner.proofs.Reading.{read_made, heard_fault}
use Rattle.pod_runner.proofs.calls.read.Goals as goal

pub returns-in_err-key-clause-leaves : goal.returns-in_err-key-clause-leaves
returns-in_err-key-clause-leaves g c = leaves_itself begins justified g.C.Client.seen g.C.Client.law g.C.Client.place g.C.Client.faults c.args.client.now

pub returns-clause-made : goal.returns-clause-made
returns-clause-made g c = λ told.
    read_made c.args.job.now (g.C.Client.seen c.get-answer.new.client) (g.C.Client.seen c.args.client.now)
    (g.C.Client.lag c.args.client.now) (g.C.Client.lag c.get-answer.new.client) (g.C.Client.others c.args.client.now)
    (g.C.Client.others c.get-answer.new.client) c.in_ok-key.key c.get-answer.result c.in_ok-key.ensures
    c.get-answer.ensures.leaves.later c.get-answer.ensures.others c.get-answer.ensures.back c.get-answer.ensures.read
    c.get-answer.ensures.key c.get-answer.ensures.lag c.heard.result c.heard.ensures told

pub returns-clause-fault : goal.returns-clause-fault
returns-clause-fault g c = λ e. c.get-answer.ensures.fault (heard_fault c.get-answer.result (sym c.heard.ensures ∙ e))
