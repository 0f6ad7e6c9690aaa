-- So many places without a mark.
use Rattle.std.proofs.Common.{◌≡◌, vec_len, replicate, false}
use Rattle.dag_stays.proofs.staying.no_marks.Given as goal

abbrev pub invariant-loop : goal.invariant-loop
invariant-loop l = record {
  long : vec_len l.marks ≡ l.counter;
  none : l.marks.items ≡ replicate l.counter false;
}
