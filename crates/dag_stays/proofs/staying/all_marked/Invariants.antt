-- The positions that are left decide.
use Rattle.std.proofs.Common.{◌≡◌, drop}
use Rattle.std.specs.List.{list_all}
use Rattle.dag_stays.specs.Unmoved.{is_marked}
use Rattle.dag_stays.proofs.staying.all_marked.Given as goal

abbrev pub invariant-loop-i : goal.invariant-loop-i
invariant-loop-i l = list_all (is_marked l.marks) (drop l.i l.places) ≡ list_all (is_marked l.marks) l.places
