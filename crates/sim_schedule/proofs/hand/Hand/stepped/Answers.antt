-- A step of the job that is done, or none.
use Rattle.std.proofs.Common.{◌≡◌, ◌∙◌, [], map, ap, sym, subst}
use Rattle.next_step.specs.Hands.{Hand}
use Rattle.wf_object.specs.Documents.{law_of}
use Rattle.sim_schedule.specs.Inside.Hands.{given, hand_in, hand_after, IsBusyFirst}
use Rattle.sim_schedule.specs.declared.hand_job.Doing.TheVariants.{Nothing, Workflow, Pod}
use Rattle.sim_schedule.specs.Inside.Steps.{HandMoves}
use Rattle.sim_schedule.proofs.Plays.{if_ok, none_moved}
use Rattle.sim_schedule.proofs.hand.Hand.stepped.Goals as goal

pub returns-in-Nothing-clause-made : goal.returns-in-Nothing-clause-made
returns-in-Nothing-clause-made g c =
    let D = law_of c.args.document.now in
    let h = c.args.store.now.history in
    let faults = g.O.Outage.faults c.args.store.now.outage in
    let idle : hand_in Nothing c.self.inside.waiting.items c.self.inside.lag ≡ c.args.self =
    ap (λ doing. hand_in doing c.self.inside.waiting.items c.self.inside.lag) (sym c.in-Nothing.is) ∙ c.self.view_is in
    let none : map given c.self.inside.waiting.items ≡ [] = subst (λ doing. IsBusyFirst doing (map given c.self.inside.waiting.items)) c.in-Nothing.is c.self.invariant in
    subst (λ (a : Hand). HandMoves D h a faults h (hand_in Nothing c.self.inside.waiting.items c.self.inside.lag) faults) idle
    (none_moved D h (hand_in Nothing c.self.inside.waiting.items c.self.inside.lag) faults none)

pub returns-in_ok-left-in-Workflow-clause-made : goal.returns-in_ok-left-in-Workflow-clause-made
returns-in_ok-left-in-Workflow-clause-made g c =
    let D = law_of c.args.document.now in
    let waiting = map given c.self.inside.waiting.items in
    let busy : hand_in (Workflow c.in-Workflow.worker) c.self.inside.waiting.items c.self.inside.lag ≡ c.args.self =
    ap (λ doing. hand_in doing c.self.inside.waiting.items c.self.inside.lag) (sym c.in-Workflow.is) ∙ c.self.view_is in
    if_ok c.with.result
    (λ hand is. subst (λ (b : Hand). HandMoves D c.args.store.now.history c.args.self (g.O.Outage.faults c.args.store.now.outage)
    c.work.new.store.history b (g.O.Outage.faults c.work.new.store.outage)) (sym is)
    (subst (λ (a : Hand). HandMoves D c.args.store.now.history a (g.O.Outage.faults c.args.store.now.outage)
    c.work.new.store.history (hand_after c.in_ok-left-in-Workflow.left waiting) (g.O.Outage.faults c.work.new.store.outage)) busy
    (c.in_ok-left-in-Workflow.ensures.made waiting)))
    c.with.ensures

pub returns-in_ok-left-in-Pod-clause-made : goal.returns-in_ok-left-in-Pod-clause-made
returns-in_ok-left-in-Pod-clause-made g c =
    let D = law_of c.args.document.now in
    let waiting = map given c.self.inside.waiting.items in
    let busy : hand_in (Pod c.in-Pod.runner) c.self.inside.waiting.items c.self.inside.lag ≡ c.args.self =
    ap (λ doing. hand_in doing c.self.inside.waiting.items c.self.inside.lag) (sym c.in-Pod.is) ∙ c.self.view_is in
    if_ok c.with-in-Pod.result
    (λ hand is. subst (λ (b : Hand). HandMoves D c.args.store.now.history c.args.self (g.O.Outage.faults c.args.store.now.outage)
    c.run.new.store.history b (g.O.Outage.faults c.run.new.store.outage)) (sym is)
    (subst (λ (a : Hand). HandMoves D c.args.store.now.history a (g.O.Outage.faults c.args.store.now.outage)
    c.run.new.store.history (hand_after c.in_ok-left-in-Pod.left waiting) (g.O.Outage.faults c.run.new.store.outage)) busy
    (c.in_ok-left-in-Pod.ensures.made waiting)))
    c.with-in-Pod.ensures
