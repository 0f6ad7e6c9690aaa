-- What is left, and what is read of it.
use Rattle.std.proofs.Common.{◌≡◌, drop}
use Rattle.meaning.specs.Lines.{lines_below, then_parts}
use Rattle.meaning.specs.Trees.{beginnings_in}
use Rattle.tree_state.specs.Asking.{first}
use Rattle.tree_state.specs.Inside.Kids.{parts_of}
use Rattle.tree_state.specs.Inside.Chunks.{all_of}
use Rattle.tree_state.proofs.+first_beginning.Given as goal

abbrev pub invariant-filled::Filled::first_beginning-loop-chunk : goal.invariant-filled::Filled::first_beginning-loop-chunk
invariant-filled::Filled::first_beginning-loop-chunk l =
    first (beginnings_in (lines_below (then_parts (all_of (drop l.chunk-index l.chunk-items)) l.self-inside.last))) ≡ first (beginnings_in (lines_below l.self))

abbrev pub invariant-chunk::Chunk::first_beginning-loop-kid : goal.invariant-chunk::Chunk::first_beginning-loop-kid
invariant-chunk::Chunk::first_beginning-loop-kid l =
    first (beginnings_in (lines_below (parts_of (drop l.kid-index l.kid-items)))) ≡ first (beginnings_in (lines_below l.self))
