-- The clock is at the next tick, or where it was.
use Rattle.std.proofs.Common.{refl}
use Rattle.history.specs.History.{clock_of}
use Rattle.wf_object.specs.Documents.{law_of}
use Rattle.sim_schedule.proofs.Submitting.{ticked_on, ticked_pace}
use Rattle.sim_schedule.proofs.whole_run.move_clock.Goals as goal

pub returns-clause-on : goal.returns-clause-on
returns-clause-on g c =
    ticked_on (law_of c.args.document.now) c.args.store.now.history c.tick-answer.new.self.history c.args.tick
    (clock_of c.args.store.now.history) refl c.tick-answer.result c.tick-answer.ensures.answer c.tick-answer.ensures.adds

pub returns-clause-pace : goal.returns-clause-pace
returns-clause-pace g c = λ next lawful done.
    ticked_pace (law_of c.args.document.now) c.args.store.now.history c.tick-answer.new.self.history c.args.tick
    (clock_of c.args.store.now.history) refl c.jobs_keep_pace.ensures c.args.full.now c.requires.valid next lawful done
    c.tick-answer.result c.tick-answer.ensures.adds
