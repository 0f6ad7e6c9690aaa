-- A kid stands behind the parts before.
use Rattle.std.proofs.Common.{sym, ap, ◌∙◌}
use Rattle.meaning.specs.Lines.{Parts, then_parts}
use Rattle.tree_state.specs.Inside.Chunks.{all_of}
use Rattle.tree_state.specs.Inside.Kids.{kid_parts}
use Rattle.tree_state.specs.Inside.Sums.{sum_of}
use Rattle.tree_state.proofs.Kids.{then_moves}
use Rattle.tree_state.proofs.Sums.{both_kept}
use Rattle.tree_state.proofs.filled.Filled.put.Goals as goal

pub invariant_of-self-2 : goal.invariant_of-self-2
invariant_of-self-2 c =
    let full = all_of c.self.inside.full.items in
    both_kept (then_parts full c.self.inside.last) (kid_parts c.args.kid) c.self.inside.sum c.in_ok-more.more c.in_ok-sum.sum c.self.invariant c.in_ok-more.ensures c.in_ok-sum.ensures
    ∙ ap sum_of (then_moves full c.self.inside.last (kid_parts c.args.kid))
    ∙ sym (ap (λ (q : Parts). sum_of (then_parts full q)) c.in_ok-add.ensures.ok)

pub returns : goal.returns
returns c =
    let full = all_of c.self.inside.full.items in
    ap (λ (q : Parts). then_parts full q) c.in_ok-add.ensures.ok
    ∙ sym (then_moves full c.self.inside.last (kid_parts c.args.kid))
    ∙ ap (λ (q : Parts). then_parts q (kid_parts c.args.kid)) c.self.view_is
