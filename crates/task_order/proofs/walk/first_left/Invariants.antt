-- Those before are done.
use Rattle.std.proofs.Common.{◌≡◌, ℕ, ◌<◌, ◌≤◌, get_or}
use Rattle.task_order.specs.declared.stage.Stage.TheVariants.{Done}
use Rattle.task_order.specs.Inside.Walks.{stage}
use Rattle.task_order.proofs.walk.first_left.Given as goal

abbrev pub invariant-loop-k : goal.invariant-loop-k
invariant-loop-k l = (j : ℕ) → l.from ≤ j → j < l.k → stage l.stages (get_or l.row j 0) ≡ Done
