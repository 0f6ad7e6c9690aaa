-- The row of the states so far.
use Rattle.std.proofs.Common.{◌≡◌}
use Rattle.meaning.specs.Lines.{row_of}
use Rattle.leaf_states.proofs.retries.row.Given as goal

abbrev pub invariant-loop-state : goal.invariant-loop-state
invariant-loop-state l = l.below ≡ row_of l.yielded
