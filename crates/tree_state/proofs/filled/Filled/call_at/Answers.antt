use Rattle.std.proofs.Common.{◌≡◌, ◌+◌, ◌-◌, ◌<◌, ◌≤◌, length, drop, sym, ap, ◌∙◌, arith}
use Rattle.meaning.specs.Lines.{Parts, then_parts, row_in}
use Rattle.tree_state.specs.Replacing.{call_at}
use Rattle.tree_state.specs.Inside.Chunks.{all_of}
use Rattle.tree_state.proofs.Chunks.{chunks_from, call_within, call_behind, last_left}
use Rattle.tree_state.proofs.filled.Filled.call_at.Goals as goal

pub returns-then-left-calls : goal.returns-then-left-calls
returns-then-left-calls c =
    let cs = c.deref-chunk-items.result.now in
    let item = c.chunk-item.result in
    let rest = then_parts (all_of (drop (c.loop-chunk.chunk-index + 1) cs)) c.self.inside.last in
    let lt : c.loop-chunk.left < length (row_in item.value) = omega (arith, c.if-left-calls.true, c.calls-calls.ensures.all, ap (λ (p : Parts). length (row_in p)) c.deref.ensures) in
    c.call_at.ensures
    ∙ ap (λ (p : Parts). call_at p c.loop-chunk.left) c.deref-then-left-calls.ensures
    ∙ sym (call_within item.value rest c.loop-chunk.left lt)
    ∙ ap (λ (p : Parts). call_at p c.loop-chunk.left) (sym (chunks_from cs c.self.inside.last c.loop-chunk.chunk-index item c.loop-chunk-test.true c.chunk-item.is))
    ∙ c.loop-chunk.invariant

pub loop-chunk-preserved : goal.loop-chunk-preserved
loop-chunk-preserved c =
    let cs = c.deref-chunk-items.result.now in
    let item = c.chunk-item.result in
    let rest = then_parts (all_of (drop (c.loop-chunk.chunk-index + 1) cs)) c.self.inside.last in
    let is : c.loop-chunk.left ≡ length (row_in item.value) + (c.loop-chunk.left - c.calls-calls.result) = omega (arith, c.if-left-calls.false, c.calls-calls.ensures.all, ap (λ (p : Parts). length (row_in p)) c.deref.ensures) in
    sym (call_behind item.value rest c.loop-chunk.left (c.loop-chunk.left - c.calls-calls.result) is)
    ∙ ap (λ (p : Parts). call_at p c.loop-chunk.left) (sym (chunks_from cs c.self.inside.last c.loop-chunk.chunk-index item c.loop-chunk-test.true c.chunk-item.is))
    ∙ c.loop-chunk.invariant

pub returns : goal.returns
returns c =
    let end : length c.deref-chunk-items.result.now ≤ c.loop-chunk.chunk-index = omega (arith, c.loop-chunk-test.false) in
    c.call_at-2.ensures
    ∙ ap (λ (p : Parts). call_at p c.loop-chunk.left) (sym (last_left c.deref-chunk-items.result.now c.self.inside.last c.loop-chunk.chunk-index end))
    ∙ c.loop-chunk.invariant
