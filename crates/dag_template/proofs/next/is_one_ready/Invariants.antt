-- The tasks that are left decide.
use Rattle.std.proofs.Common.{◌≡◌, drop}
use Rattle.std.specs.List.{list_any}
use Rattle.dag_template.specs.declared.stands.Stand.{Stand}
use Rattle.dag_template.proofs.next.is_one_ready.Given as goal

abbrev pub invariant-loop-i : goal.invariant-loop-i
invariant-loop-i l = list_any (λ (s : Stand). s.ready) (drop l.i l.stands) ≡ list_any (λ (s : Stand). s.ready) l.stands
