-- What is left, and what is read of it.
use Rattle.std.proofs.Common.{◌≡◌, drop}
use Rattle.tree_state.specs.Inside.Kids.{parts_of}
use Rattle.tree_state.specs.Inside.Begun.{begins_in}
use Rattle.tree_state.proofs.chunk.Chunk.begins.Given as goal

abbrev pub invariant-loop-kid : goal.invariant-loop-kid
invariant-loop-kid l = begins_in (parts_of (drop l.kid-index l.kid-items)) l.path ≡ begins_in l.self l.path
