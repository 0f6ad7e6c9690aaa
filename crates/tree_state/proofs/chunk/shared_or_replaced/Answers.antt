-- The call stands behind the chunk.
use Rattle.std.proofs.Common.{◌≡◌, ◌+◌, ◌-◌, length, ap, ◌∙◌, arith}
use Rattle.meaning.specs.Lines.{Parts, then_parts, row_in}
use Rattle.tree_state.specs.Inside.Kids.{replaced_by}
use Rattle.tree_state.proofs.Chunks.{skips_chunk}
use Rattle.tree_state.proofs.chunk.shared_or_replaced.Goals as goal

pub returns-then-left-calls : goal.returns-then-left-calls
returns-then-left-calls c = λ rest.
    let n = c.args.left.now - c.calls-calls.result in
    let is : c.args.left.now ≡ length (row_in c.args.chunk.now.value) + n = omega (arith, c.if-left-calls.true, c.calls-calls.ensures.all, ap (λ (p : Parts). length (row_in p)) c.deref.ensures) in
    ap (λ (p : Parts). then_parts p (replaced_by rest n c.args.call.now)) c.in_ok-try_clone-2.ensures
    ∙ skips_chunk c.args.call.now c.args.chunk.now.value rest c.args.left.now n is
