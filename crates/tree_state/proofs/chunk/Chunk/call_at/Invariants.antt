-- What is left, and what is read of it.
use Rattle.std.proofs.Common.{◌≡◌, drop}
use Rattle.tree_state.specs.Replacing.{call_at}
use Rattle.tree_state.specs.Inside.Kids.{parts_of}
use Rattle.tree_state.proofs.chunk.Chunk.call_at.Given as goal

abbrev pub invariant-loop-kid : goal.invariant-loop-kid
invariant-loop-kid l =
    call_at (parts_of (drop l.kid-index l.kid-items)) l.left ≡ call_at l.self l.position
