-- The tasks that are left decide.
use Rattle.std.proofs.Common.{◌≡◌, drop}
use Rattle.std.specs.List.{list_all}
use Rattle.dag_template.specs.Following.{is_at_rest}
use Rattle.dag_template.proofs.next.are_at_rest.Given as goal

abbrev pub invariant-loop-i : goal.invariant-loop-i
invariant-loop-i l = list_all is_at_rest (drop l.i l.stands) ≡ list_all is_at_rest l.stands
