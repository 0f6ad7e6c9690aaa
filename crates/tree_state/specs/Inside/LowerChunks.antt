-- A chunk is smaller than the whole.
use Rattle.std.proofs.Common.{◌≡◌, ◌+◌, ◌*◌, ◌≤◌, List, [], ◌∷◌, arith}
use denote.Param.Weighed.{most}
use Rattle.std.specs.declared.sync.Arc.{Arc}
use Rattle.std.specs.declared.alloc.Global.{Global}
use Rattle.meaning.specs.Lines.{Parts, nothing, call, may_begin, asks, then_parts}
use Rattle.tree_state.specs.Counting.{count_below}
use Rattle.tree_state.specs.Inside.Chunks.{all_of}
use Rattle.tree_state.specs.Inside.Sizes.{chunk_size}

pub both_counted : (p q : Parts) → count_below (then_parts p q) ≡ count_below p + count_below q
both_counted nothing q = omega arith
both_counted (call own inner rest) q = omega (arith, both_counted rest q)
both_counted (may_begin p rest) q = both_counted rest q
both_counted (asks w rest) q = both_counted rest q

pub chunks_are_lower : (cs : List (Arc Parts Global)) → most (λ (c : Arc Parts Global). chunk_size c.value + 1) cs ≤ 6 * count_below (all_of cs) + 3
chunks_are_lower [] = omega arith
chunks_are_lower (c ∷ cs) = omega (arith, both_counted c.value (all_of cs), chunks_are_lower cs)
