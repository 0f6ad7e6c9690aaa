-- Each step is played by the hand that it names.
use Rattle.std.proofs.Common.{◌≡◌, ◌∙◌, List, [], ◌∷◌, ◌++◌, length, ap, ap₂, sym, subst, true}
use Rattle.std.specs.Prelude.{slice_set, OnOk}
use Rattle.bundle_rules.specs.Schedules.{is_of_hands}
use Rattle.item_reader.specs.declared.schedules.ScheduleStep.{ScheduleStep}
use Rattle.item_reader.specs.declared.schedules.ScheduleStep.TheVariants as step
use Rattle.next_step.specs.Hands.{for_flow, for_pod, Hand}
use Rattle.next_step.specs.Plays.{stage}
use Rattle.wf_object.specs.Documents.{law_of}
use Rattle.sim_schedule.specs.Simulating.{step_of}
use Rattle.sim_schedule.specs.Inside.Steps.{StepPlayed}
use Rattle.sim_schedule.proofs.Plays.{on_ok, at_hand, given_so, restarted_so, lagged_so, stepped_so}
use Rattle.sim_schedule.proofs.playing.play.Goals as goal

there_by : (hands : List Hand) (o p : ScheduleStep) → is_of_hands (length hands) o ≡ true → o ≡ p → is_of_hands (length hands) p ≡ true
there_by hands o p there is = subst (λ s. is_of_hands (length hands) s ≡ true) is there

pub returns-in_ok-copy-in-Give-clause-played : goal.returns-in_ok-copy-in-Give-clause-played
returns-in_ok-copy-in-Give-clause-played g c =
    let at = at_hand c.args.hands.now.items c.in-Give.hand c.index_mut.result.now
    (there_by c.args.hands.now.items c.args.step.now (step.Give c.in-Give.hand c.in-Give.workflow) c.requires.there c.in-Give.is) c.index_mut.ensures.value in
    subst (λ (s : ScheduleStep). OnOk c.give.result (StepPlayed (law_of c.args.document.now) (step_of s) (stage c.args.store.now.history c.args.hands.now.items) (g.O.Outage.faults c.args.store.now.outage)
    (stage c.args.store.now.history (slice_set c.args.hands.now.items c.in-Give.hand c.give.new.self)) (g.O.Outage.faults c.args.store.now.outage))) (sym c.in-Give.is)
    (on_ok c.give.result
    (λ is. given_so (law_of c.args.document.now) c.args.store.now.history c.args.hands.now.items c.in-Give.hand c.index_mut.result.now c.give.new.self (g.O.Outage.faults c.args.store.now.outage) at (for_flow c.in-Give.workflow)
    (is ∙ ap (λ w. record c.index_mut.result.now { jobs = c.index_mut.result.now.jobs ++ for_flow w ∷ [] }) c.in_ok-copy-in-Give.ensures))
    c.give.ensures)

pub returns-in_ok-copy-in-GivePod-2-clause-played : goal.returns-in_ok-copy-in-GivePod-2-clause-played
returns-in_ok-copy-in-GivePod-2-clause-played g c =
    let at = at_hand c.args.hands.now.items c.in-GivePod.hand c.index_mut-in-GivePod.result.now
    (there_by c.args.hands.now.items c.args.step.now (step.GivePod c.in-GivePod.hand c.in-GivePod.workflow c.in-GivePod.node) c.requires.there c.in-GivePod.is) c.index_mut-in-GivePod.ensures.value in
    subst (λ (s : ScheduleStep). OnOk c.give-in-GivePod.result (StepPlayed (law_of c.args.document.now) (step_of s) (stage c.args.store.now.history c.args.hands.now.items) (g.O.Outage.faults c.args.store.now.outage)
    (stage c.args.store.now.history (slice_set c.args.hands.now.items c.in-GivePod.hand c.give-in-GivePod.new.self)) (g.O.Outage.faults c.args.store.now.outage))) (sym c.in-GivePod.is)
    (on_ok c.give-in-GivePod.result
    (λ is. given_so (law_of c.args.document.now) c.args.store.now.history c.args.hands.now.items c.in-GivePod.hand c.index_mut-in-GivePod.result.now c.give-in-GivePod.new.self (g.O.Outage.faults c.args.store.now.outage) at
    (for_pod c.in-GivePod.workflow c.in-GivePod.node)
    (is ∙ ap₂ (λ w n. record c.index_mut-in-GivePod.result.now { jobs = c.index_mut-in-GivePod.result.now.jobs ++ for_pod w n ∷ [] })
    c.in_ok-copy-in-GivePod.ensures c.in_ok-copy-in-GivePod-2.ensures))
    c.give-in-GivePod.ensures)

pub returns-in-Step-clause-played : goal.returns-in-Step-clause-played
returns-in-Step-clause-played g c =
    let at = at_hand c.args.hands.now.items c.in-Step.hand c.index_mut-in-Step.result.now
    (there_by c.args.hands.now.items c.args.step.now (step.Step c.in-Step.hand) c.requires.there c.in-Step.is) c.index_mut-in-Step.ensures.value in
    subst (λ (s : ScheduleStep). OnOk c.step.result (StepPlayed (law_of c.args.document.now) (step_of s) (stage c.args.store.now.history c.args.hands.now.items) (g.O.Outage.faults c.args.store.now.outage)
    (stage c.step.new.store.history (slice_set c.args.hands.now.items c.in-Step.hand c.step.new.self)) (g.O.Outage.faults c.step.new.store.outage))) (sym c.in-Step.is)
    (on_ok c.step.result
    (λ moves. stepped_so (law_of c.args.document.now) c.args.store.now.history c.step.new.store.history c.args.hands.now.items c.in-Step.hand c.index_mut-in-Step.result.now c.step.new.self
    (g.O.Outage.faults c.args.store.now.outage) (g.O.Outage.faults c.step.new.store.outage) at moves)
    c.step.ensures.made)

pub returns-in-Restart-clause-played : goal.returns-in-Restart-clause-played
returns-in-Restart-clause-played g c =
    let at = at_hand c.args.hands.now.items c.in-Restart.hand c.index_mut-in-Restart.result.now
    (there_by c.args.hands.now.items c.args.step.now (step.Restart c.in-Restart.hand) c.requires.there c.in-Restart.is) c.index_mut-in-Restart.ensures.value in
    subst (λ (s : ScheduleStep). StepPlayed (law_of c.args.document.now) (step_of s) (stage c.args.store.now.history c.args.hands.now.items) (g.O.Outage.faults c.args.store.now.outage)
    (stage c.args.store.now.history (slice_set c.args.hands.now.items c.in-Restart.hand c.restart.new.self)) (g.O.Outage.faults c.args.store.now.outage)) (sym c.in-Restart.is)
    (restarted_so (law_of c.args.document.now) c.args.store.now.history c.args.hands.now.items c.in-Restart.hand c.index_mut-in-Restart.result.now c.restart.new.self (g.O.Outage.faults c.args.store.now.outage) at c.restart.ensures)

pub returns-in-Lag-clause-played : goal.returns-in-Lag-clause-played
returns-in-Lag-clause-played g c =
    let at = at_hand c.args.hands.now.items c.in-Lag.hand c.index_mut-in-Lag.result.now
    (there_by c.args.hands.now.items c.args.step.now (step.Lag c.in-Lag.hand c.in-Lag.back) c.requires.there c.in-Lag.is) c.index_mut-in-Lag.ensures.value in
    subst (λ (s : ScheduleStep). StepPlayed (law_of c.args.document.now) (step_of s) (stage c.args.store.now.history c.args.hands.now.items) (g.O.Outage.faults c.args.store.now.outage)
    (stage c.args.store.now.history (slice_set c.args.hands.now.items c.in-Lag.hand c.set_lag.new.self)) (g.O.Outage.faults c.args.store.now.outage)) (sym c.in-Lag.is)
    (lagged_so (law_of c.args.document.now) c.args.store.now.history c.args.hands.now.items c.in-Lag.hand c.index_mut-in-Lag.result.now c.set_lag.new.self (g.O.Outage.faults c.args.store.now.outage) at c.in-Lag.back c.set_lag.ensures)
