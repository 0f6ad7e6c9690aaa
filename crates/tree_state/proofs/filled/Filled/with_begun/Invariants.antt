-- What is left, and what is read of it.
use Rattle.std.proofs.Common.{◌≡◌, drop}
use Rattle.std.specs.Prelude.{option_map}
use Rattle.meaning.specs.Lines.{then_parts}
use Rattle.tree_state.specs.Beginning.{begun}
use Rattle.tree_state.specs.Inside.Begun.{begun_by}
use Rattle.tree_state.specs.Inside.Chunks.{all_of}
use Rattle.tree_state.specs.Inside.Sums.{sum_of}
use Rattle.tree_state.proofs.filled.Filled.with_begun.Given as goal

abbrev pub invariant-loop-chunk : goal.invariant-loop-chunk
invariant-loop-chunk l =
    (option_map (then_parts (all_of l.full.items)) (begun_by (then_parts (all_of (drop l.chunk-index l.chunk-items)) l.self-inside.last) l.path l.call) ≡ begun l.self l.path l.fn.call) × (l.sum ≡ sum_of (all_of l.full.items))
