-- Where nobody else calls the store, each call of the job is answered at the history that the one before left.
use Rattle.std.proofs.Common.{◌≡◌, Some, None, Ok, Err}
use Rattle.wf_object.specs.Documents.{law_of}
use Rattle.pod_runner.proofs.Alone.{ran_missed, ran_failed, ran_ended}
use Rattle.pod_runner.proofs.WholeJobs.{made_missed, made_failed, made_ended}
use Rattle.pod_runner.proofs.whole_job.run_pod.Goals as goal

pub returns-in-Ok-Some-clause-alone : goal.returns-in-Ok-Some-clause-alone
returns-in-Ok-Some-clause-alone g c = λ told no_lag still.
    ran_ended (law_of c.args.document.now) c.args.workflow.now c.args.node.now
    record { workflow = c.in_ok-copy.field-0; node = c.in_ok-copy-2.field-0 } c.in_ok-copy.ensures c.in_ok-copy-2.ensures
    (g.C.Client.seen c.args.client.now) (g.C.Client.lag c.args.client.now) (g.C.Client.others c.args.client.now)
    (g.C.Client.seen c.read.new.client) (g.C.Client.lag c.read.new.client) (g.C.Client.others c.read.new.client) no_lag
    c.read.result c.read.ensures.made c.in-Ok-Some.seen (cc) c.end.result (g.C.Client.seen c.end.new.client)
    (g.C.Client.others c.end.new.client) (c.end.ensures.made told) still

pub returns-in-Ok-None-clause-alone : goal.returns-in-Ok-None-clause-alone
returns-in-Ok-None-clause-alone g c = λ told no_lag still.
    ran_missed (law_of c.args.document.now) c.args.workflow.now c.args.node.now
    record { workflow = c.in_ok-copy.field-0; node = c.in_ok-copy-2.field-0 } c.in_ok-copy.ensures c.in_ok-copy-2.ensures
    (g.C.Client.seen c.args.client.now) (g.C.Client.lag c.args.client.now) (g.C.Client.others c.args.client.now)
    (g.C.Client.seen c.read.new.client) (g.C.Client.lag c.read.new.client) (g.C.Client.others c.read.new.client) no_lag
    c.read.result c.read.ensures.made (cc) still

pub returns-clause-alone : goal.returns-clause-alone
returns-clause-alone g c = λ told no_lag still.
    ran_failed (law_of c.args.document.now) c.args.workflow.now c.args.node.now
    record { workflow = c.in_ok-copy.field-0; node = c.in_ok-copy-2.field-0 } c.in_ok-copy.ensures c.in_ok-copy-2.ensures
    (g.C.Client.seen c.args.client.now) (g.C.Client.lag c.args.client.now) (g.C.Client.others c.args.client.now)
    (g.C.Client.seen c.read.new.client) (g.C.Client.lag c.read.new.client) (g.C.Client.others c.read.new.client) no_lag
    c.read.result c.read.ensures.made c.in-Err.fault (cc) told still

pub returns-in-Ok-Some-clause-made : goal.returns-in-Ok-Some-clause-made
returns-in-Ok-Some-clause-made g c = λ told.
    made_ended (law_of c.args.document.now) c.args.workflow.now c.args.node.now c.in_ok-copy.field-0 c.in_ok-copy-2.field-0
    c.in_ok-copy.ensures c.in_ok-copy-2.ensures (g.C.Client.seen c.args.client.now) (g.C.Client.lag c.args.client.now)
    (g.C.Client.others c.args.client.now) (g.C.Client.seen c.read.new.client) (g.C.Client.lag c.read.new.client)
    (g.C.Client.others c.read.new.client) c.read.result c.read.ensures.made
    c.in-Ok-Some.seen (cc) c.end.result (g.C.Client.seen c.end.new.client) (g.C.Client.others c.end.new.client)
    (c.end.ensures.made told)

pub returns-in-Ok-None-clause-made : goal.returns-in-Ok-None-clause-made
returns-in-Ok-None-clause-made g c = λ told.
    made_missed (law_of c.args.document.now) c.args.workflow.now c.args.node.now c.in_ok-copy.field-0 c.in_ok-copy-2.field-0
    c.in_ok-copy.ensures c.in_ok-copy-2.ensures (g.C.Client.seen c.args.client.now) (g.C.Client.lag c.args.client.now)
    (g.C.Client.others c.args.client.now) (g.C.Client.seen c.read.new.client) (g.C.Client.lag c.read.new.client)
    (g.C.Client.others c.read.new.client) c.read.result c.read.ensures.made (cc)

pub returns-clause-made : goal.returns-clause-made
returns-clause-made g c = λ told.
    made_failed (law_of c.args.document.now) c.args.workflow.now c.args.node.now c.in_ok-copy.field-0 c.in_ok-copy-2.field-0
    c.in_ok-copy.ensures c.in_ok-copy-2.ensures (g.C.Client.seen c.args.client.now) (g.C.Client.lag c.args.client.now)
    (g.C.Client.others c.args.client.now) (g.C.Client.seen c.read.new.client) (g.C.Client.lag c.read.new.client)
    (g.C.Client.others c.read.new.client) c.read.result c.read.ensures.made
    c.in-Err.fault (cc) told
