-- What is found and what is left make the whole.
use Rattle.std.proofs.Common.{◌≡◌, ◌++◌, drop}
use Rattle.dag_template.specs.Following.{places_seen}
use Rattle.dag_template.proofs.next.places.Given as goal

abbrev pub invariant-loop-i : goal.invariant-loop-i
invariant-loop-i l = l.found ++ places_seen l.i l.asked (drop l.i l.stands) ≡ places_seen 0 l.asked l.stands
