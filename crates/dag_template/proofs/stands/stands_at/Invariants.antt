-- How those so far stand.
use Rattle.std.proofs.Common.{◌≡◌, map, get_or, take}
use Rattle.dag_template.specs.Stands.{waits}
use Rattle.dag_template.proofs.stands.stands_at.Given as goal

abbrev pub invariant-loop-i : goal.invariant-loop-i
invariant-loop-i l = l.found ≡ map (λ p. get_or l.stands p waits) (take l.i l.places)
