-- One entry more.
use Rattle.sim_schedule.proofs.AtRest.{wakes_none, wakes_next, wakes_to_end}
use Rattle.sim_schedule.proofs.resting.Resting.wake_all.Goals as goal

pub loop-entry-init : goal.loop-entry-init
loop-entry-init c = wakes_none c.args.self.now

pub loop-entry-preserved : goal.loop-entry-preserved
loop-entry-preserved c = wakes_next c.args.entries.now c.loop-entry.entry-index c.entry-item.result c.args.self.now c.loop-entry.self c.wake.new.self c.loop-entry-test.true c.entry-item.is c.loop-entry.invariant c.wake.ensures

pub returns : goal.returns
returns c = wakes_to_end c.args.entries.now c.loop-entry.entry-index c.args.self.now c.loop-entry.self c.loop-entry-test.false c.loop-entry.auto.entry-index-end c.loop-entry.invariant
