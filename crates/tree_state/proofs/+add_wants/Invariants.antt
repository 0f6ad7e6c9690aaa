-- What is listed, and what is left to list.
use Rattle.std.proofs.Common.{◌≡◌, ◌++◌, drop}
use Rattle.std.specs.List.{filter}
use Rattle.meaning.specs.Lines.{lines_below, then_parts}
use Rattle.meaning.specs.Trees.{wants_in}
use Rattle.tree_state.specs.Asking.{is_of}
use Rattle.tree_state.specs.Inside.Kids.{parts_of}
use Rattle.tree_state.specs.Inside.Chunks.{all_of}
use Rattle.tree_state.proofs.+add_wants.Given as goal

abbrev pub invariant-filled::Filled::add_wants-loop-chunk : goal.invariant-filled::Filled::add_wants-loop-chunk
invariant-filled::Filled::add_wants-loop-chunk l =
    l.wants ++ filter (is_of l.kind) (wants_in (lines_below (then_parts (all_of (drop l.chunk-index l.chunk-items)) l.self-inside.last))) ≡ l.fn.wants ++ filter (is_of l.kind) (wants_in (lines_below l.self))

abbrev pub invariant-chunk::Chunk::add_wants-loop-kid : goal.invariant-chunk::Chunk::add_wants-loop-kid
invariant-chunk::Chunk::add_wants-loop-kid l =
    l.wants ++ filter (is_of l.kind) (wants_in (lines_below (parts_of (drop l.kid-index l.kid-items)))) ≡ l.fn.wants ++ filter (is_of l.kind) (wants_in (lines_below l.self))
