-- The dependencies that are left decide.
use Rattle.std.proofs.Common.{◌≡◌, drop}
use Rattle.dag_template.specs.Stands.{are_met_at}
use Rattle.dag_template.proofs.judging.are_met.Given as goal

abbrev pub invariant-loop-i : goal.invariant-loop-i
invariant-loop-i l = are_met_at l.tasks (drop l.i l.places) (drop l.i l.found) ≡ are_met_at l.tasks l.places l.found
