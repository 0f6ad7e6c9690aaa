use Rattle.std.proofs.Common.{◌≡◌, drop, slice_get}
use Rattle.sync_locks.specs.Inside.Pieces.{joined}
use Rattle.sync_locks.proofs.pieces.Pieces.get.Given as goal

-- it is sought in what is left
abbrev pub invariant-loop-piece : goal.invariant-loop-piece
invariant-loop-piece g l = slice_get (joined (drop l.piece-index l.piece-items)) l.left ≡ slice_get l.self l.position
