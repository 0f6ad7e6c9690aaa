-- What is left, and what is read of it.
use Rattle.std.proofs.Common.{◌≡◌, drop}
use Rattle.std.specs.List.{find}
use Rattle.meaning.specs.Lines.{lines_below, then_parts}
use Rattle.meaning.specs.Trees.{wants_in}
use Rattle.tree_state.specs.Asking.{is_of}
use Rattle.tree_state.specs.Inside.Kids.{parts_of}
use Rattle.tree_state.specs.Inside.Chunks.{all_of}
use Rattle.tree_state.proofs.+first_want.Given as goal

abbrev pub invariant-filled::Filled::first_want-loop-chunk : goal.invariant-filled::Filled::first_want-loop-chunk
invariant-filled::Filled::first_want-loop-chunk l =
    find (is_of l.kind) (wants_in (lines_below (then_parts (all_of (drop l.chunk-index l.chunk-items)) l.self-inside.last))) ≡ find (is_of l.kind) (wants_in (lines_below l.self))

abbrev pub invariant-chunk::Chunk::first_want-loop-kid : goal.invariant-chunk::Chunk::first_want-loop-kid
invariant-chunk::Chunk::first_want-loop-kid l =
    find (is_of l.kind) (wants_in (lines_below (parts_of (drop l.kid-index l.kid-items)))) ≡ find (is_of l.kind) (wants_in (lines_below l.self))
