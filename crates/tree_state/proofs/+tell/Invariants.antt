-- What is left, and what is read of it.
use Rattle.std.proofs.Common.{◌≡◌, drop}
use Rattle.meaning.specs.Lines.{lines_below, then_parts}
use Rattle.tree_state.specs.Telling.{told_with}
use Rattle.tree_state.specs.Inside.Kids.{parts_of}
use Rattle.tree_state.specs.Inside.Chunks.{all_of}
use Rattle.tree_state.proofs.+tell.Given as goal

abbrev pub invariant-filled::Filled::tell-loop-chunk : goal.invariant-filled::Filled::tell-loop-chunk
invariant-filled::Filled::tell-loop-chunk l =
    told_with l.told (lines_below (then_parts (all_of (drop l.chunk-index l.chunk-items)) l.self-inside.last)) ≡ told_with l.fn.told (lines_below l.self)

abbrev pub invariant-chunk::Chunk::tell-loop-kid : goal.invariant-chunk::Chunk::tell-loop-kid
invariant-chunk::Chunk::tell-loop-kid l =
    told_with l.told (lines_below (parts_of (drop l.kid-index l.kid-items))) ≡ told_with l.fn.told (lines_below l.self)
