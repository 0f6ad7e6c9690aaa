-- Chunk by chunk, with the other call in its place.
use Rattle.std.proofs.Common.{◌≡◌, ◌+◌, ◌≤◌, length, drop, sym, ap, ◌∙◌, arith}
use Rattle.meaning.specs.Lines.{Parts, nothing, then_parts}
use Rattle.tree_state.specs.Inside.Kids.{replaced_by}
use Rattle.tree_state.specs.Inside.Chunks.{all_of}
use Rattle.tree_state.specs.Inside.Sums.{sum_of}
use Rattle.tree_state.proofs.Kids.{then_moves, replaced_whole}
use Rattle.tree_state.proofs.Sums.{both_kept}
use Rattle.tree_state.proofs.Chunks.{chunks_from, chunk_pushed, last_left}
use Rattle.tree_state.proofs.filled.Filled.with_call.Goals as goal

pub loop-chunk-preserved : goal.loop-chunk-preserved
loop-chunk-preserved c =
    let cs = c.deref-chunk-items.result.now in
    let last = c.self.inside.last in
    let rest = then_parts (all_of (drop (c.loop-chunk.chunk-index + 1) cs)) last in
    let full = c.loop-chunk.full.items in
    let new = c.in_ok-chunk.chunk in
    let left = c.shared_or_replaced.new.left in
    let call = c.shared_or_replaced.new.call in
    let pushed : all_of c.push.new.self.items ≡ then_parts (all_of full) new.value = ap all_of c.in_ok-push.ensures.items ∙ chunk_pushed full new in (
      ap (λ (p : Parts). then_parts p (replaced_by rest left call)) pushed
          ∙ then_moves (all_of full) new.value (replaced_by rest left call)
          ∙ ap (λ (p : Parts). then_parts (all_of full) p) (c.in_ok-chunk.ensures rest)
          ∙ ap (λ (p : Parts). then_parts (all_of full) (replaced_by p c.loop-chunk.left c.loop-chunk.call)) (sym (chunks_from cs last c.loop-chunk.chunk-index c.chunk-item.result c.loop-chunk-test.true c.chunk-item.is))
          ∙ c.loop-chunk.invariant.0,
      both_kept (all_of full) new.value c.loop-chunk.sum c.sum.result c.in_ok-sum.sum c.loop-chunk.invariant.1 (c.sum.ensures ∙ ap sum_of c.deref.ensures) c.in_ok-sum.ensures
          ∙ sym (ap sum_of pushed),
    )

pub invariant_of-result : goal.invariant_of-result
invariant_of-result c = both_kept (all_of c.loop-chunk.full.items) c.in_ok-last.last c.loop-chunk.sum c.sum-2.result c.in_ok-sum-2.sum c.loop-chunk.invariant.1 c.sum-2.ensures c.in_ok-sum-2.ensures

pub returns : goal.returns
returns c =
    let end : length c.deref-chunk-items.result.now ≤ c.loop-chunk.chunk-index = omega (arith, c.loop-chunk-test.false) in
    let full = all_of c.loop-chunk.full.items in
    ap (λ (p : Parts). then_parts full p) (replaced_whole c.in_ok-last.last c.self.inside.last c.loop-chunk.left c.copied_or_replaced.new.left c.loop-chunk.call c.copied_or_replaced.new.call (c.in_ok-last.ensures nothing))
    ∙ ap (λ (p : Parts). then_parts full (replaced_by p c.loop-chunk.left c.loop-chunk.call)) (sym (last_left c.deref-chunk-items.result.now c.self.inside.last c.loop-chunk.chunk-index end))
    ∙ c.loop-chunk.invariant.0
