-- What is marked so far is apart.
use Rattle.std.proofs.Common.{◌≡◌, length, vec_len}
use Rattle.dag_stays.specs.Unmoved.{AreApart}
use Rattle.dag_stays.proofs.staying.unmoved.Given as goal

abbrev pub invariant-loop-k : goal.invariant-loop-k
invariant-loop-k l = record {
  long : vec_len l.marks ≡ length l.rows;
  apart : AreApart l.rows l.j l.marks.items;
}
