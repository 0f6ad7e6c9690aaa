-- What is left, and what is read of it.
use Rattle.std.proofs.Common.{◌≡◌, drop}
use Rattle.meaning.specs.Lines.{lines_below, then_parts}
use Rattle.meaning.specs.Trees.{wants_in}
use Rattle.tree_state.specs.Finding.{sooner, next_tick}
use Rattle.tree_state.specs.Inside.Kids.{parts_of}
use Rattle.tree_state.specs.Inside.Chunks.{all_of}
use Rattle.tree_state.proofs.+next_timer.Given as goal

abbrev pub invariant-filled::Filled::next_timer-loop-chunk : goal.invariant-filled::Filled::next_timer-loop-chunk
invariant-filled::Filled::next_timer-loop-chunk l =
    sooner l.next (next_tick l.clock (wants_in (lines_below (then_parts (all_of (drop l.chunk-index l.chunk-items)) l.self-inside.last)))) ≡ next_tick l.clock (wants_in (lines_below l.self))

abbrev pub invariant-chunk::Chunk::next_timer-loop-kid : goal.invariant-chunk::Chunk::next_timer-loop-kid
invariant-chunk::Chunk::next_timer-loop-kid l =
    sooner l.next (next_tick l.clock (wants_in (lines_below (parts_of (drop l.kid-index l.kid-items))))) ≡ next_tick l.clock (wants_in (lines_below l.self))
