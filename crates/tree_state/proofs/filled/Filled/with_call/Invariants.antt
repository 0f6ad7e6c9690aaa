-- What is left, and what is read of it.
use Rattle.std.proofs.Common.{◌≡◌, drop}
use Rattle.meaning.specs.Lines.{then_parts}
use Rattle.tree_state.specs.Replacing.{replaced}
use Rattle.tree_state.specs.Inside.Kids.{replaced_by}
use Rattle.tree_state.specs.Inside.Chunks.{all_of}
use Rattle.tree_state.specs.Inside.Sums.{sum_of}
use Rattle.tree_state.proofs.filled.Filled.with_call.Given as goal

abbrev pub invariant-loop-chunk : goal.invariant-loop-chunk
invariant-loop-chunk l =
    (then_parts (all_of l.full.items) (replaced_by (then_parts (all_of (drop l.chunk-index l.chunk-items)) l.self-inside.last) l.left l.call) ≡ replaced l.self l.position l.fn.call) × (l.sum ≡ sum_of (all_of l.full.items))
