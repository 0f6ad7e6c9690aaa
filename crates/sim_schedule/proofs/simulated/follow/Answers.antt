-- Step by step, from hands without jobs on.
use Rattle.std.proofs.Common.{◌≡◌, ◌∙◌, ◌+◌, List, length, take, ap, refl, sym, subst, true}
use Rattle.std.proofs.lemmas.List.{length-replicate}
use Rattle.bundle_rules.specs.Schedules.{is_of_hands}
use Rattle.growth.specs.Growth.{Among}
use Rattle.item_reader.specs.declared.schedules.ScheduleStep.{ScheduleStep}
use Rattle.next_step.specs.Hands.{idle_hand}
use Rattle.wf_object.specs.Documents.{law_of}
use Rattle.sim_schedule.proofs.Submitting.{stays, on, among_at}
use Rattle.sim_schedule.proofs.Following.{Sofar, sofar_none, sofar_next, sofar_lawful}
use Rattle.sim_schedule.proofs.simulated.follow.Goals as goal

pub steps-init : goal.steps-init
steps-init g c = record {
  on = stays (law_of c.args.document.now) c.args.store.now.history c.args.store.now.history refl;
  count = ap length c.in_ok-hands.ensures ∙ length-replicate c.args.document.now.schedule.workers idle_hand;
  sofar = sofar_none (law_of c.args.document.now) c.args.document.now.schedule c.args.store.now.history (g.O.Outage.faults c.args.store.now.outage)
      c.in_ok-hands.hands.items c.in_ok-hands.ensures;
}

pub play-requires-clause-there : goal.play-requires-clause-there
play-requires-clause-there g c =
    let steps = c.args.document.now.schedule.steps in
    let here : Among c.index-steps-i.result steps =
    subst (λ (os : List ScheduleStep). Among c.index-steps-i.result os) c.as_slice-steps.ensures
    (subst (λ (o : ScheduleStep). Among o c.as_slice-steps.result.now) (sym c.index-steps-i.is)
    (among_at c.as_slice-steps.result.now c.steps.i c.index-steps-i.result c.steps-test.true)) in
    subst (λ n. is_of_hands n c.index-steps-i.result ≡ true) (sym c.steps.invariant.count) (c.requires.hands c.index-steps-i.result here)

pub play-requires-clause-lawful : goal.play-requires-clause-lawful
play-requires-clause-lawful g c =
    sofar_lawful c.plays_lawfully.ensures (law_of c.args.document.now) c.args.document.now.schedule _ c.args.store.now.history
    (g.O.Outage.faults c.args.store.now.outage) c.steps.store.history c.steps.hands.items (g.O.Outage.faults c.steps.store.outage)
    c.requires.valid c.requires.lawful c.steps.invariant.sofar

pub steps-preserved : goal.steps-preserved
steps-preserved g c =
    let D = law_of c.args.document.now in
    let s = c.args.document.now.schedule in
    record {
      on = on D c.args.store.now.history c.steps.store.history c.play.new.store.history c.steps.invariant.on c.play.ensures.on;
      count = c.in_ok-play.ensures.count ∙ c.steps.invariant.count;
      sofar = subst (λ (os : List ScheduleStep). Sofar D s (take (c.steps.i + 1) os) c.args.store.now.history
          (g.O.Outage.faults c.args.store.now.outage) c.play.new.store.history c.play.new.hands.items (g.O.Outage.faults c.play.new.store.outage))
          c.as_slice-steps.ensures
          (sofar_next D s c.as_slice-steps.result.now c.args.store.now.history (g.O.Outage.faults c.args.store.now.outage)
          c.steps.store.history c.steps.hands.items (g.O.Outage.faults c.steps.store.outage) c.steps.i c.index-steps-i.result
          c.play.new.store.history c.play.new.hands.items (g.O.Outage.faults c.play.new.store.outage) c.steps-test.true c.index-steps-i.is
          (subst (λ (os : List ScheduleStep). Sofar D s (take c.steps.i os) c.args.store.now.history
          (g.O.Outage.faults c.args.store.now.outage) c.steps.store.history c.steps.hands.items (g.O.Outage.faults c.steps.store.outage))
          (sym c.as_slice-steps.ensures) c.steps.invariant.sofar)
          c.in_ok-play.ensures.played);
    }
