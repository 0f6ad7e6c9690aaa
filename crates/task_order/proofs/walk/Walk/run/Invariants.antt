-- The walk is sound, and each step leaves less work.
use Rattle.task_order.specs.Inside.Walks.{IsSound, KeepsMet, work}
use Rattle.task_order.proofs.walk.Walk.run.Given as goal

abbrev pub invariant-steps : goal.invariant-steps
invariant-steps l = record { sound : IsSound l.waits l.self; met : KeepsMet l.initial.self l.self }

abbrev pub decreases-steps : goal.decreases-steps
decreases-steps l = work l.self
