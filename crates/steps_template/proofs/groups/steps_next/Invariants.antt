-- The groups that are left decide.
use Rattle.std.proofs.Common.{◌≡◌, drop}
use Rattle.steps_template.specs.Groups.{next_from}
use Rattle.steps_template.proofs.groups.steps_next.Given as goal

abbrev pub invariant-loop-i : goal.invariant-loop-i
invariant-loop-i l = next_from l.i (drop l.i l.groups) ≡ next_from 0 l.groups
