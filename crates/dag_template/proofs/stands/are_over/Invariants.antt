-- The tasks that are left decide.
use Rattle.std.proofs.Common.{◌≡◌, drop}
use Rattle.std.specs.List.{list_all}
use Rattle.dag_template.specs.declared.stands.Stand.{Stand}
use Rattle.dag_template.proofs.stands.are_over.Given as goal

abbrev pub invariant-loop-i : goal.invariant-loop-i
invariant-loop-i l = list_all (λ (s : Stand). s.over) (drop l.i l.stands) ≡ list_all (λ (s : Stand). s.over) l.stands
