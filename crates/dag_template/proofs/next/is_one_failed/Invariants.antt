-- The targets that are left decide.
use Rattle.std.proofs.Common.{◌≡◌, drop}
use Rattle.std.specs.List.{list_any}
use Rattle.dag_template.specs.Following.{has_failed}
use Rattle.dag_template.proofs.next.is_one_failed.Given as goal

abbrev pub invariant-loop-i : goal.invariant-loop-i
invariant-loop-i l = list_any has_failed (drop l.i l.targets) ≡ list_any has_failed l.targets
