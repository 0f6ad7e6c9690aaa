-- The last chunk is empty.
use Rattle.std.proofs.Common.{sym, ap, ◌∙◌}
use Rattle.meaning.specs.Lines.{Parts, then_parts}
use Rattle.tree_state.specs.Inside.Chunks.{all_of}
use Rattle.tree_state.specs.Inside.Sums.{sum_of}
use Rattle.tree_state.proofs.Sums.{both_kept}
use Rattle.tree_state.proofs.Inserts.{behind_empty}
use Rattle.tree_state.proofs.filled.Filled.add_behind.Goals as goal

pub invariant_of-self-2 : goal.invariant_of-self-2
invariant_of-self-2 c =
    let full = c.self.inside.full.items in
    let last = c.self.inside.last in
    let copy = c.in_ok-try_clone.field-0 in
    both_kept (then_parts (all_of full) last) copy.value c.self.inside.sum c.sum.result c.in_ok-sum.sum c.self.invariant (c.sum.ensures ∙ ap sum_of (c.deref-2.ensures ∙ sym c.in_ok-try_clone.ensures)) c.in_ok-sum.ensures
    ∙ sym (ap sum_of (behind_empty full c.push.new.self.items copy last (c.is_empty.ensures c.if-not-is_empty.false) c.in_ok-push.ensures.items))

pub returns : goal.returns
returns c =
    let full = c.self.inside.full.items in
    let last = c.self.inside.last in
    behind_empty full c.push.new.self.items c.in_ok-try_clone.field-0 last (c.is_empty.ensures c.if-not-is_empty.false) c.in_ok-push.ensures.items
    ∙ ap (λ (p : Parts). then_parts (then_parts (all_of full) last) p) c.in_ok-try_clone.ensures
    ∙ ap (λ (p : Parts). then_parts p c.args.chunk.now.value) c.self.view_is
