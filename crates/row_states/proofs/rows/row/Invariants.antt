-- The row of the calls so far.
use Rattle.std.proofs.Common.{◌≡◌}
use Rattle.meaning.specs.Lines.{row_of}
use Rattle.row_states.proofs.rows.row.Given as goal

abbrev pub invariant-loop-state : goal.invariant-loop-state
invariant-loop-state l = l.below ≡ row_of l.yielded
