use Rattle.std.proofs.Common.{sym, ap, ◌∙◌}
use Rattle.tree_state.specs.Inside.Sums.{sum_of}
use Rattle.tree_state.proofs.Chunks.{sealed}
use Rattle.tree_state.proofs.filled.Filled.seal.Goals as goal

pub invariant_of-self-2 : goal.invariant_of-self-2
invariant_of-self-2 c =
    c.self.invariant ∙ sym (ap sum_of (sealed c.self.inside.full.items c.push.new.self.items c.in_ok-last.last c.new-2.result c.self.inside.last c.in_ok-push.ensures.items (c.in_ok-last.ensures.ok ∙ c.in_ok-copy.ensures) c.new-2.ensures))

pub returns : goal.returns
returns c =
    sealed c.self.inside.full.items c.push.new.self.items c.in_ok-last.last c.new-2.result c.self.inside.last c.in_ok-push.ensures.items (c.in_ok-last.ensures.ok ∙ c.in_ok-copy.ensures) c.new-2.ensures ∙ c.self.view_is
