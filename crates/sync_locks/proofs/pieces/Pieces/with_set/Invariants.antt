use Rattle.std.proofs.Common.{◌≡◌, ◌++◌, drop}
use Rattle.std.specs.Prelude.{slice_set}
use Rattle.sync_locks.specs.Inside.Pieces.{joined, changed}
use Rattle.sync_locks.proofs.pieces.Pieces.with_set.Given as goal

-- the pieces so far, and the place set in what is left
abbrev pub invariant-loop-piece : goal.invariant-loop-piece
invariant-loop-piece g l = joined l.pieces.items ++ changed (joined (drop l.piece-index l.piece-items)) l.left l.item ≡ slice_set l.self l.position l.item
