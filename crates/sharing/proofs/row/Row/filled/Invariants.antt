use Rattle.std.proofs.Common.{◌≡◌, ◌-◌, ◌≤◌, length, replicate}
use Rattle.sharing.proofs.row.Row.filled.Given as goal

abbrev pub invariant-loop-items : goal.invariant-loop-items
invariant-loop-items g l = record {
  within : length l.items.items ≤ l.count;
  same : l.items.items ≡ replicate (length l.items.items) l.item;
}

abbrev pub decreases-loop-items : goal.decreases-loop-items
decreases-loop-items g l = l.count - length l.items.items
