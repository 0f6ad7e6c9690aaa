use Rattle.std.proofs.Common.{◌≡◌, ◌+◌, take}
use Rattle.row_states.specs.Rows.{count_row}
use Rattle.tree_change.proofs.share.shared_first.Given as goal

-- the calls before this one are shared
abbrev pub invariant-loop-i : goal.invariant-loop-i
invariant-loop-i l = record {
  shared : l.states ≡ take l.i l.old;
  room : l.room + count_row (take l.i l.old) ≡ l.fn.room;
}
