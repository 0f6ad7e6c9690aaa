-- The submissions, the schedule, and the rounds behind it.
use Rattle.wf_object.specs.Documents.{law_of}
use Rattle.sim_schedule.proofs.Following.{simulation_gives}
use Rattle.sim_schedule.proofs.simulated.simulate.Goals as goal

pub returns-clause-simulated : goal.returns-clause-simulated
returns-clause-simulated g c =
    simulation_gives (law_of c.args.document.now) c.args.document.now.schedule c.args.store.now.history c.submit_all.new.store.history
    c.follow.new.store.history c.sweep.new.store.history (g.O.Outage.faults c.args.store.now.outage)
    (g.O.Outage.faults c.submit_all.new.store.outage) (g.O.Outage.faults c.follow.new.store.outage)
    (g.O.Outage.faults c.sweep.new.store.outage) c.submit_all.ensures.rising c.sweep.ensures.rising c.in_ok-submit_all.ensures.done
    c.follow.ensures.on.later c.in_ok-follow.ensures.followed c.sweep.result
    (c.sweep.ensures.swept (c.follow.ensures.on.lawful (c.submit_all.ensures.on.lawful c.requires.lawful)))
