use Rattle.std.proofs.Common.{◌≡◌, ◌≤◌, length, drop}
use Rattle.std.specs.Prelude.{None}
use Rattle.saves.specs.Saves.{last_save}
use Rattle.memo_cache.proofs.table.last_in.Given as goal

-- none of those that were passed is of this cache and key
abbrev pub invariant-loop-left : goal.invariant-loop-left
invariant-loop-left l = record {
  within : l.left ≤ length l.bucket;
  none : last_save (drop l.left l.bucket) l.cache l.key ≡ None;
}

abbrev pub decreases-loop-left : goal.decreases-loop-left
decreases-loop-left l = l.left
