-- The places of the rows so far are marked.
use Rattle.std.proofs.Common.{◌≡◌, vec_len, take, fold, replicate, length, false}
use Rattle.dag_plan.specs.Inside.Marks.{marked}
use Rattle.dag_plan.proofs.marks.marks_of.Given as goal

abbrev pub invariant-loop-i : goal.invariant-loop-i
invariant-loop-i l = record {
  long : vec_len l.marks ≡ length l.rows;
  marked : l.marks.items ≡ fold marked (replicate (length l.rows) false) (take l.i l.rows);
}
