-- The places so far are marked.
use Rattle.std.proofs.Common.{◌≡◌, vec_len, take}
use Rattle.dag_plan.specs.Inside.Marks.{marked}
use Rattle.dag_plan.proofs.marks.mark.Given as goal

abbrev pub invariant-loop-i : goal.invariant-loop-i
invariant-loop-i l = record {
  long : vec_len l.marks ≡ vec_len l.initial.marks;
  marked : l.marks.items ≡ marked l.initial.marks.items (take l.i l.places);
}
