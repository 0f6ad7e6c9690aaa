-- The clock is at the tick, or where it was.
use Rattle.std.proofs.Common.{refl, arith}
use Rattle.history.specs.History.{clock_of}
use Rattle.wf_object.specs.Documents.{law_of}
use Rattle.sim_schedule.proofs.Submitting.{ticked_on}
use Rattle.sim_schedule.proofs.Plays.{on_ok, clock_moved}
use Rattle.sim_schedule.proofs.playing.move_clock.Goals as goal

pub returns-clause-on : goal.returns-clause-on
returns-clause-on g c =
    ticked_on (law_of c.args.document.now) c.args.store.now.history c.tick-answer.new.self.history c.args.to
    (clock_of c.args.store.now.history) refl c.tick-answer.result c.tick-answer.ensures.answer c.tick-answer.ensures.adds

pub returns-clause-played : goal.returns-clause-played
returns-clause-played g c = λ hands.
    on_ok c.is_answered.result
    (λ answered. clock_moved (law_of c.args.document.now) c.args.store.now.history c.tick-answer.new.self.history c.args.to
    (g.O.Outage.faults c.args.store.now.outage) (g.O.Outage.faults c.tick-answer.new.self.outage) hands c.tick-answer.result answered
    c.tick-answer.ensures.answer c.tick-answer.ensures.adds (λ fault. let up = c.tick-answer.ensures.outage.rose fault in omega (arith, up)) c.tick-answer.ensures.outage.stood)
    c.is_answered.ensures
