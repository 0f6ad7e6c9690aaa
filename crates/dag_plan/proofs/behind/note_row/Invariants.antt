-- The number is noted at the places so far.
use Rattle.std.proofs.Common.{◌≡◌, length, take}
use Rattle.dag_plan.specs.Inside.Behind.{row_noted}
use Rattle.dag_plan.proofs.behind.note_row.Given as goal

abbrev pub invariant-loop-i : goal.invariant-loop-i
invariant-loop-i l = record {
  long : length l.lists.items ≡ length l.initial.lists.items;
  noted : l.lists.items ≡ row_noted l.number l.initial.lists.items (take l.i l.row);
}
