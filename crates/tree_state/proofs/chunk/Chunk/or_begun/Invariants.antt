-- What is left, and what is read of it.
use Rattle.std.proofs.Common.{◌≡◌, drop}
use Rattle.std.specs.Prelude.{option_map}
use Rattle.meaning.specs.Lines.{Parts, then_parts}
use Rattle.tree_state.specs.Inside.Kids.{parts_of}
use Rattle.tree_state.specs.Inside.Begun.{begun_by}
use Rattle.tree_state.proofs.chunk.Chunk.or_begun.Given as goal

abbrev pub invariant-loop-kid : goal.invariant-loop-kid
invariant-loop-kid l =
    (rest : Parts) → option_map (then_parts l.chunk) (begun_by (then_parts (parts_of (drop l.kid-index l.kid-items)) rest) l.path l.call) ≡ begun_by (then_parts l.self rest) l.path l.fn.call
