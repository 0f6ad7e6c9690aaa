use Rattle.std.proofs.Common.{◌≡◌, drop}
use Rattle.saves.specs.Saves.{has_saved}
use Rattle.memo_cache.specs.Saving.{writer}
use Rattle.memo_cache.proofs.table.has_in.Given as goal

-- the saves before the position are not by the writer
abbrev pub invariant-loop-position : goal.invariant-loop-position
invariant-loop-position l = has_saved (writer l.workflow l.path) (drop l.position l.bucket) ≡ has_saved (writer l.workflow l.path) l.bucket
