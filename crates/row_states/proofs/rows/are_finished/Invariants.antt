-- The calls that are left decide.
use Rattle.std.proofs.Common.{◌≡◌, drop}
use Rattle.meaning.specs.Lines.{all_finished}
use Rattle.row_states.proofs.rows.are_finished.Given as goal

abbrev pub invariant-loop-i : goal.invariant-loop-i
invariant-loop-i l = all_finished (drop l.i l.states) ≡ all_finished l.states
