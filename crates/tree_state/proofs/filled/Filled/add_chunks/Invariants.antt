-- The chunks that were added.
use Rattle.std.proofs.Common.{◌≡◌, take}
use Rattle.meaning.specs.Lines.{then_parts}
use Rattle.tree_state.specs.Inside.Chunks.{all_of}
use Rattle.tree_state.proofs.filled.Filled.add_chunks.Given as goal

abbrev pub invariant-loop-chunk : goal.invariant-loop-chunk
invariant-loop-chunk l = l.self ≡ then_parts l.fn.self (all_of (take l.chunk-index l.chunks))
