-- No place is open, and those before were met.
use Rattle.std.proofs.Common.{◌≡◌, ◌≢◌, ℕ, ◌<◌, []}
use Rattle.task_order.specs.declared.stage.Stage.TheVariants.{New}
use Rattle.task_order.specs.Inside.Walks.{IsSound, stage}
use Rattle.task_order.proofs.ordering.order_of.Given as goal

abbrev pub invariant-loop-place : goal.invariant-loop-place
invariant-loop-place l = record {
  sound : IsSound l.waits l.walk;
  trail : l.walk.trail.items ≡ [];
  met : (v : ℕ) → v < l.place → stage l.walk.stages.items v ≢ New;
}
