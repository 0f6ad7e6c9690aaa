-- What is left, and what is read of it.
use Rattle.std.proofs.Common.{◌≡◌, drop}
use Rattle.meaning.specs.Lines.{Parts, then_parts}
use Rattle.tree_state.specs.Inside.Kids.{parts_of, replaced_by}
use Rattle.tree_state.proofs.chunk.Chunk.or_replaced.Given as goal

abbrev pub invariant-loop-kid : goal.invariant-loop-kid
invariant-loop-kid l =
    (rest : Parts) → then_parts l.chunk (replaced_by (then_parts (parts_of (drop l.kid-index l.kid-items)) rest) l.left l.call) ≡ replaced_by (then_parts l.self rest) l.fn.left l.fn.call
