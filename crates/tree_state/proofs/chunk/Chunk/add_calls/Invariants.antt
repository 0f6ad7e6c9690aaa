-- What is left, and what is read of it.
use Rattle.std.proofs.Common.{◌≡◌, ◌++◌, drop}
use Rattle.meaning.specs.Lines.{row_in}
use Rattle.tree_state.specs.Inside.Kids.{parts_of}
use Rattle.tree_state.proofs.chunk.Chunk.add_calls.Given as goal

abbrev pub invariant-loop-kid : goal.invariant-loop-kid
invariant-loop-kid l =
    l.calls ++ row_in (parts_of (drop l.kid-index l.kid-items)) ≡ l.fn.calls ++ row_in l.self
