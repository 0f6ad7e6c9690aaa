-- What the calls of the job leave of the store.
use Rattle.std.proofs.Common.{ap, rules}
use Rattle.wf_object.specs.Documents.{law_of}
use Rattle.sim_schedule.specs.Sweeping.{GoesOn}
use Rattle.sim_schedule.proofs.Submitting.{client_on}
use Rattle.sim_schedule.proofs.round.run.Goals as goal

pub returns-in-Ok-clause-on : goal.returns-in-Ok-clause-on
returns-in-Ok-clause-on g c =
    let on : GoesOn (law_of c.args.document.now) c.args.store.now.history c.run_pod.new.client.store.now.history = client_on c.args.document.now c.new-client.result.law.now c.args.store.now.history c.new-client.result.store.now.history c.run_pod.new.client.store.now.history c.new-client.ensures.law (ap (λ s. s.history) c.new-client.ensures.store) c.run_pod.ensures.leaves.later c.run_pod.ensures.leaves.lawful in
    search (rules, on)

pub returns-in-Err-Fault-clause-on : goal.returns-in-Err-Fault-clause-on
returns-in-Err-Fault-clause-on g c =
    let on : GoesOn (law_of c.args.document.now) c.args.store.now.history c.run_pod.new.client.store.now.history = client_on c.args.document.now c.new-client.result.law.now c.args.store.now.history c.new-client.result.store.now.history c.run_pod.new.client.store.now.history c.new-client.ensures.law (ap (λ s. s.history) c.new-client.ensures.store) c.run_pod.ensures.leaves.later c.run_pod.ensures.leaves.lawful in
    search (rules, on)

pub returns-in-Err-Memory-clause-on : goal.returns-in-Err-Memory-clause-on
returns-in-Err-Memory-clause-on g c =
    let on : GoesOn (law_of c.args.document.now) c.args.store.now.history c.run_pod.new.client.store.now.history = client_on c.args.document.now c.new-client.result.law.now c.args.store.now.history c.new-client.result.store.now.history c.run_pod.new.client.store.now.history c.new-client.ensures.law (ap (λ s. s.history) c.new-client.ensures.store) c.run_pod.ensures.leaves.later c.run_pod.ensures.leaves.lawful in
    search (rules, on)
