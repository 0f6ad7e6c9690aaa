use Rattle.std.proofs.Common.{◌≡◌, ◌++◌, drop}
use Rattle.std.specs.List.{remove}
use Rattle.sync_locks.specs.Inside.Pieces.{joined, taken}
use Rattle.sync_locks.proofs.pieces.Pieces.without.Given as goal

-- the pieces so far, and the place taken from what is left
abbrev pub invariant-loop-piece : goal.invariant-loop-piece
invariant-loop-piece g l = joined l.pieces.items ++ taken (joined (drop l.piece-index l.piece-items)) l.left ≡ remove l.self l.position
