-- A get is answered as of the history that the client has seen then.
use Rattle.job_calls.proofs.calls.get.Goals as goal

pub returns-clause-back : goal.returns-clause-back
returns-clause-back g c = λ m.
    c.gets_are_answered.ensures.back c.args.key.now (g.C.Client.lag c.args.client.now) (g.C.Client.seen c.args.client.now)
    (g.C.Client.seen c.get.new.self) c.get.result (g.C.Client.others c.args.client.now) (g.C.Client.others c.get.new.self)
    c.get.ensures.got m

pub returns-clause-read : goal.returns-clause-read
returns-clause-read g c = λ m.
    c.gets_are_answered.ensures.read c.args.key.now (g.C.Client.lag c.args.client.now) (g.C.Client.seen c.args.client.now)
    (g.C.Client.seen c.get.new.self) c.get.result (g.C.Client.others c.args.client.now) (g.C.Client.others c.get.new.self)
    c.get.ensures.got c.get.ensures.of m
