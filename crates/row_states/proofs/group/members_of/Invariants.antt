-- The members that are told, before those that are left.
use Rattle.std.proofs.Common.{◌≡◌, ◌++◌, drop}
use Rattle.std.specs.Prelude.{map, zip}
use Rattle.steps_template.specs.Opened.{seen}
use Rattle.row_states.proofs.group.members_of.Given as goal

abbrev pub invariant-loop-i : goal.invariant-loop-i
invariant-loop-i l = l.members ++ map seen (drop l.i (zip l.calls l.states)) ≡ map seen (zip l.calls l.states)
