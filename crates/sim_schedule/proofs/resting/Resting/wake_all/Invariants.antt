-- What the entries so far concern rests no more.
use Rattle.std.proofs.Common.{take}
use Rattle.sim_schedule.specs.Inside.Restings.{WakesAll}
use Rattle.sim_schedule.proofs.resting.Resting.wake_all.Given as goal

abbrev pub invariant-loop-entry : goal.invariant-loop-entry
invariant-loop-entry l = WakesAll (take l.entry-index l.entries) l.fn.self l.self
