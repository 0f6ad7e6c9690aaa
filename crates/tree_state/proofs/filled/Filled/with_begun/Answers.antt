-- Chunk by chunk, with the call in the place of its task.
use Rattle.std.proofs.Common.{◌≡◌, ◌+◌, ◌≤◌, length, drop, Option, sym, ap, ◌∙◌, arith}
use Rattle.std.specs.Prelude.{option_map}
use Rattle.meaning.specs.Lines.{Parts, then_parts}
use Rattle.tree_state.specs.Beginning.{begun}
use Rattle.tree_state.specs.Inside.Begun.{begun_by}
use Rattle.tree_state.specs.Inside.Chunks.{all_of}
use Rattle.tree_state.specs.Inside.Sums.{sum_of}
use Rattle.tree_state.proofs.Sums.{both_kept}
use Rattle.tree_state.proofs.Chunks.{chunks_from, chunk_pushed, last_left}
use Rattle.tree_state.proofs.Begins.{none_kept, none_begun, left_over, has_begun, none_before, some_before, chunk_begun}
use Rattle.tree_state.proofs.filled.Filled.with_begun.Goals as goal

-- no task at all may begin there
pub returns-then-not-self : goal.returns-then-not-self
returns-then-not-self c =
    let parts = then_parts (all_of c.self.inside.full.items) c.self.inside.last in
    let path = c.args.path.now in
    none_begun parts path c.args.call (none_kept parts path c.self.inside.sum c.self.invariant c.if-not-self.true)
    ∙ ap (λ (p : Parts). begun p path c.args.call) c.self.view_is

pub loop-chunk-preserved : goal.loop-chunk-preserved
loop-chunk-preserved c =
    let cs = c.deref-chunk-items.result.now in
    let last = c.self.inside.last in
    let rest = then_parts (all_of (drop (c.loop-chunk.chunk-index + 1) cs)) last in
    let full = c.loop-chunk.full.items in
    let new = c.in_ok-chunk.chunk in
    let path = c.args.path.now in
    let call = c.shared_or_begun.new.call in
    let pushed : all_of c.push.new.self.items ≡ then_parts (all_of full) new.value = ap all_of c.in_ok-push.ensures.items ∙ chunk_pushed full new in (
      ap (λ (p : Parts). option_map (then_parts p) (begun_by rest path call)) pushed
          ∙ chunk_begun (all_of full) new.value (begun_by rest path call)
          ∙ ap (λ (o : Option Parts). option_map (then_parts (all_of full)) o) (c.in_ok-chunk.ensures rest)
          ∙ ap (λ (p : Parts). option_map (then_parts (all_of full)) (begun_by p path c.loop-chunk.call)) (sym (chunks_from cs last c.loop-chunk.chunk-index c.chunk-item.result c.loop-chunk-test.true c.chunk-item.is))
          ∙ c.loop-chunk.invariant.0,
      both_kept (all_of full) new.value c.loop-chunk.sum c.sum.result c.in_ok-sum.sum c.loop-chunk.invariant.1 (c.sum.ensures ∙ ap sum_of c.deref.ensures) c.in_ok-sum.ensures
          ∙ sym (ap sum_of pushed),
    )

-- the call is left over
pub returns-then-is_some : goal.returns-then-is_some
returns-then-is_some c =
    let cs = c.deref-chunk-items.result.now in
    let last = c.self.inside.last in
    let full = all_of c.loop-chunk.full.items in
    let path = c.args.path.now in
    let end : length cs ≤ c.loop-chunk.chunk-index = omega (arith, c.loop-chunk-test.false) in
    let now = ap (λ (p : Parts). option_map (then_parts full) (begun_by p path c.loop-chunk.call)) (sym (last_left cs last c.loop-chunk.chunk-index end)) ∙ c.loop-chunk.invariant.0 in
    none_before full last (begun c.args.self.now path c.args.call) path c.loop-chunk.call
    (left_over c.in_ok-last.last last path c.loop-chunk.call c.copied_or_begun.new.call c.in_ok-last.ensures (sym c.is_some.ensures ∙ c.if-is_some.true))
    now

pub invariant_of-result : goal.invariant_of-result
invariant_of-result c = both_kept (all_of c.loop-chunk.full.items) c.in_ok-last.last c.loop-chunk.sum c.sum-2.result c.in_ok-sum-2.sum c.loop-chunk.invariant.1 c.sum-2.ensures c.in_ok-sum-2.ensures

-- the call has its place
pub returns : goal.returns
returns c =
    let cs = c.deref-chunk-items.result.now in
    let last = c.self.inside.last in
    let full = all_of c.loop-chunk.full.items in
    let path = c.args.path.now in
    let end : length cs ≤ c.loop-chunk.chunk-index = omega (arith, c.loop-chunk-test.false) in
    let now = ap (λ (p : Parts). option_map (then_parts full) (begun_by p path c.loop-chunk.call)) (sym (last_left cs last c.loop-chunk.chunk-index end)) ∙ c.loop-chunk.invariant.0 in
    some_before full c.in_ok-last.last last (begun c.args.self.now path c.args.call) path c.loop-chunk.call
    (has_begun c.in_ok-last.last last path c.loop-chunk.call c.copied_or_begun.new.call c.in_ok-last.ensures (sym c.is_some.ensures ∙ c.if-is_some.false))
    now
