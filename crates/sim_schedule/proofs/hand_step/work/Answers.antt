-- What the call of the worker leaves of the store, and of the hand.
use Rattle.std.proofs.Common.{◌≡◌, ◌∙◌, ap, sym, true, false, rules, arith}
use Rattle.wf_object.specs.Documents.{law_of}
use Rattle.sim_schedule.specs.Sweeping.{GoesOn}
use Rattle.sim_schedule.proofs.Submitting.{client_on}
use Rattle.sim_schedule.specs.Inside.Hands.{HasOne, HasOnePod}
use Rattle.sim_schedule.proofs.Lifting.{worker_kept}
use Rattle.sim_schedule.proofs.Through.{worker_left}
use Rattle.sim_schedule.proofs.hand_step.work.Goals as goal

pub returns-in_err-goes_on-clause-on : goal.returns-in_err-goes_on-clause-on
returns-in_err-goes_on-clause-on g c =
    let on : GoesOn (law_of c.args.document.now) c.args.store.now.history c.step-answer.new.client.store.now.history = client_on c.args.document.now c.set_lag.new.self.law.now c.args.store.now.history c.set_lag.new.self.store.now.history c.step-answer.new.client.store.now.history (c.set_lag.ensures.law ∙ c.new-client.ensures.law) (ap (λ s. s.history) (c.set_lag.ensures.store ∙ c.new-client.ensures.store)) c.step-answer.ensures.leaves.later c.step-answer.ensures.leaves.lawful in
    search (rules, on)

pub returns-then-branch-clause-on : goal.returns-then-branch-clause-on
returns-then-branch-clause-on g c =
    let on : GoesOn (law_of c.args.document.now) c.args.store.now.history c.step-answer.new.client.store.now.history = client_on c.args.document.now c.set_lag.new.self.law.now c.args.store.now.history c.set_lag.new.self.store.now.history c.step-answer.new.client.store.now.history (c.set_lag.ensures.law ∙ c.new-client.ensures.law) (ap (λ s. s.history) (c.set_lag.ensures.store ∙ c.new-client.ensures.store)) c.step-answer.ensures.leaves.later c.step-answer.ensures.leaves.lawful in
    search (rules, on)

pub returns-else-branch-clause-on : goal.returns-else-branch-clause-on
returns-else-branch-clause-on g c =
    let on : GoesOn (law_of c.args.document.now) c.args.store.now.history c.step-answer.new.client.store.now.history = client_on c.args.document.now c.set_lag.new.self.law.now c.args.store.now.history c.set_lag.new.self.store.now.history c.step-answer.new.client.store.now.history (c.set_lag.ensures.law ∙ c.new-client.ensures.law) (ap (λ s. s.history) (c.set_lag.ensures.store ∙ c.new-client.ensures.store)) c.step-answer.ensures.leaves.later c.step-answer.ensures.leaves.lawful in
    search (rules, on)

pub returns-then-branch-clause-made : goal.returns-then-branch-clause-made
returns-then-branch-clause-made g c = λ rest i.
    let moved = worker_left g.O.Outage.faults (law_of c.args.document.now) c.args.store.now c.set_lag.new.self.store.now c.step-answer.new.client.store.now (c.set_lag.ensures.store ∙ c.new-client.ensures.store) c.args.lag c.set_lag.new.self.lag c.set_lag.ensures.lag c.step-answer.new.client.lag c.lag-lag.result c.lag-lag.ensures c.step-answer.ensures.leaves.rising c.args.worker c.step-answer.new.self c.step-answer.result c.requires.one (c.step-answer.ensures.made c.in_ok-goes_on.ensures.memory) (λ is. let up = (c.step-answer.ensures.fault is).0.risen in omega (arith, up)) true (sym c.in_ok-goes_on.ensures.told ∙ c.if-branch.true) rest i in
    search (rules, moved)

pub returns-else-branch-clause-made : goal.returns-else-branch-clause-made
returns-else-branch-clause-made g c = λ rest i.
    let moved = worker_left g.O.Outage.faults (law_of c.args.document.now) c.args.store.now c.set_lag.new.self.store.now c.step-answer.new.client.store.now (c.set_lag.ensures.store ∙ c.new-client.ensures.store) c.args.lag c.set_lag.new.self.lag c.set_lag.ensures.lag c.step-answer.new.client.lag c.lag-lag.result c.lag-lag.ensures c.step-answer.ensures.leaves.rising c.args.worker c.step-answer.new.self c.step-answer.result c.requires.one (c.step-answer.ensures.made c.in_ok-goes_on.ensures.memory) (λ is. let up = (c.step-answer.ensures.fault is).0.risen in omega (arith, up)) false (sym c.in_ok-goes_on.ensures.told ∙ c.if-branch.false) rest i in
    search (rules, moved)

pub returns-then-branch-clause-one : goal.returns-then-branch-clause-one
returns-then-branch-clause-one g c = λ rest.
    worker_kept (law_of c.args.document.now) c.set_lag.new.self.store.now.history c.args.worker.views c.set_lag.new.self.lag c.step-answer.result c.step-answer.new.client.store.now.history c.step-answer.new.self c.step-answer.new.client.lag c.args.worker.jobs c.requires.one.job c.requires.one.only (c.step-answer.ensures.made c.in_ok-goes_on.ensures.memory) (sym c.in_ok-goes_on.ensures.told ∙ c.if-branch.true)
