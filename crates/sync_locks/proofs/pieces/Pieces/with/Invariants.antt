use Rattle.std.proofs.Common.{◌≡◌, ◌++◌, drop}
use Rattle.std.specs.List.{insert}
use Rattle.sync_locks.specs.Inside.Pieces.{joined, put}
use Rattle.sync_locks.proofs.pieces.Pieces.with.Given as goal

-- the pieces so far, and the place put into what is left
abbrev pub invariant-loop-piece : goal.invariant-loop-piece
invariant-loop-piece g l = joined l.pieces.items ++ put (joined (drop l.piece-index l.piece-items)) l.left l.item ≡ insert l.self l.position l.item
