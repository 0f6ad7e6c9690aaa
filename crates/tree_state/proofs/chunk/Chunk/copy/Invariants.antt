-- What was copied, and what is left.
use Rattle.std.proofs.Common.{◌≡◌, drop}
use Rattle.meaning.specs.Lines.{then_parts}
use Rattle.tree_state.specs.Inside.Kids.{parts_of}
use Rattle.tree_state.proofs.chunk.Chunk.copy.Given as goal

abbrev pub invariant-loop-kid : goal.invariant-loop-kid
invariant-loop-kid l = then_parts (parts_of l.kids.items) (parts_of (drop l.kid-index l.kid-items)) ≡ parts_of l.kid-items
