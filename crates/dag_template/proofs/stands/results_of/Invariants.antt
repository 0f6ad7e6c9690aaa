-- What is found and what is left make the whole.
use Rattle.std.proofs.Common.{◌≡◌, ◌++◌, map, drop}
use Rattle.dag_template.specs.declared.stands.Stand.{Stand}
use Rattle.dag_template.proofs.stands.results_of.Given as goal

abbrev pub invariant-loop-i : goal.invariant-loop-i
invariant-loop-i l =
    l.results ++ map (λ (s : Stand). s.result) (drop l.i l.stands) ≡ map (λ (s : Stand). s.result) l.stands
