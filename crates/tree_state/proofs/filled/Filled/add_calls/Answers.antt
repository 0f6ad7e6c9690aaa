use Rattle.std.proofs.Common.{◌+◌, ◌++◌, List, drop, append_assoc, ap, ◌∙◌}
use Rattle.meaning.specs.Lines.{Parts, Made, then_parts, row_in}
use Rattle.tree_state.specs.Inside.Chunks.{all_of}
use Rattle.tree_state.proofs.Chunks.{row_read}
use Rattle.tree_state.proofs.filled.Filled.add_calls.Goals as goal

pub loop-chunk-preserved : goal.loop-chunk-preserved
loop-chunk-preserved c =
    let cs = c.deref-chunk-items.result.now in
    let rest = row_in (then_parts (all_of (drop (c.loop-chunk.chunk-index + 1) cs)) c.self.inside.last) in
    ap (λ (ms : List Made). ms ++ rest) (c.in_ok-add_calls.ensures ∙ ap (λ (p : Parts). c.loop-chunk.calls ++ row_in p) c.deref.ensures)
    ∙ append_assoc c.loop-chunk.calls (row_in c.chunk-item.result.value) rest
    ∙ ap (λ (ms : List Made). c.loop-chunk.calls ++ ms) (row_read cs c.self.inside.last c.loop-chunk.chunk-index c.chunk-item.result c.loop-chunk-test.true c.chunk-item.is)
    ∙ c.loop-chunk.invariant
