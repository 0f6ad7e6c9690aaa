use Rattle.std.proofs.Common.{List, sym, ap, ◌∙◌}
use Rattle.meaning.specs.Lines.{Parts, then_parts}
use Rattle.tree_state.specs.declared.state.Kid.{Kid}
use Rattle.tree_state.specs.Inside.Kids.{kid_parts, parts_of}
use Rattle.tree_state.specs.Inside.Sums.{sum_of}
use Rattle.tree_state.proofs.Kids.{pushed}
use Rattle.tree_state.proofs.Sums.{kid_kept}
use Rattle.tree_state.proofs.chunk.Chunk.add.Goals as goal

pub invariant_of-self-2 : goal.invariant_of-self-2
invariant_of-self-2 c =
    kid_kept c.self.inside.kids.items c.args.kid c.self.inside.sum c.in_ok-more.more c.in_ok-sum.sum c.self.invariant c.in_ok-more.ensures c.in_ok-sum.ensures
    ∙ sym (ap (λ (ks : List Kid). sum_of (parts_of ks)) c.in_ok-push.ensures.items)

pub returns-clause-ok : goal.returns-clause-ok
returns-clause-ok c =
    ap parts_of c.in_ok-push.ensures.items
    ∙ pushed c.self.inside.kids.items c.args.kid
    ∙ ap (λ (p : Parts). then_parts p (kid_parts c.args.kid)) c.self.view_is
