-- What is left, and what is read of it.
use Rattle.std.proofs.Common.{◌≡◌, drop}
use Rattle.meaning.specs.Lines.{then_parts}
use Rattle.tree_state.specs.Replacing.{call_at}
use Rattle.tree_state.specs.Inside.Chunks.{all_of}
use Rattle.tree_state.proofs.filled.Filled.call_at.Given as goal

abbrev pub invariant-loop-chunk : goal.invariant-loop-chunk
invariant-loop-chunk l =
    call_at (then_parts (all_of (drop l.chunk-index l.chunk-items)) l.self-inside.last) l.left ≡ call_at l.self l.position
