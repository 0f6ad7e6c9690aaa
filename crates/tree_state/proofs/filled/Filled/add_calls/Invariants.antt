-- What is left, and what is read of it.
use Rattle.std.proofs.Common.{◌≡◌, ◌++◌, drop}
use Rattle.meaning.specs.Lines.{then_parts, row_in}
use Rattle.tree_state.specs.Inside.Chunks.{all_of}
use Rattle.tree_state.proofs.filled.Filled.add_calls.Given as goal

abbrev pub invariant-loop-chunk : goal.invariant-loop-chunk
invariant-loop-chunk l =
    l.calls ++ row_in (then_parts (all_of (drop l.chunk-index l.chunk-items)) l.self-inside.last) ≡ l.fn.calls ++ row_in l.self
