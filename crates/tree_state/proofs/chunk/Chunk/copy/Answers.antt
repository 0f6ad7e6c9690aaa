-- Kid by kid the copy has what the chunk has, and so what is kept of it is the same.
use Rattle.std.proofs.Common.{◌≤◌, List, length, sym, ap, ◌∙◌, arith}
use Rattle.tree_state.specs.declared.state.Kid.{Kid}
use Rattle.tree_state.specs.Inside.Kids.{parts_of}
use Rattle.tree_state.specs.Inside.Sums.{sum_of}
use Rattle.tree_state.proofs.Kids.{copies_next, copies_all}
use Rattle.tree_state.proofs.chunk.Chunk.copy.Goals as goal

pub loop-kid-preserved : goal.loop-kid-preserved
loop-kid-preserved c =
    copies_next c.deref-kid-items.result.now c.loop-kid.kid-index c.kid-item.result c.in_ok-shared.field-0 c.loop-kid.kids.items c.push.new.self.items c.loop-kid-test.true c.kid-item.is c.in_ok-shared.ensures c.in_ok-push.ensures.items c.loop-kid.invariant

pub invariant_of-result : goal.invariant_of-result
invariant_of-result c =
    let end : length c.deref-kid-items.result.now ≤ c.loop-kid.kid-index = omega (arith, c.loop-kid-test.false) in
    c.self.invariant
    ∙ ap (λ (ks : List Kid). sum_of (parts_of ks)) (sym c.deref-kid-items.ensures.value)
    ∙ ap sum_of (sym (copies_all c.deref-kid-items.result.now c.loop-kid.kids.items c.loop-kid.kid-index end c.loop-kid.invariant))

pub returns : goal.returns
returns c =
    let end : length c.deref-kid-items.result.now ≤ c.loop-kid.kid-index = omega (arith, c.loop-kid-test.false) in
    copies_all c.deref-kid-items.result.now c.loop-kid.kids.items c.loop-kid.kid-index end c.loop-kid.invariant
    ∙ ap parts_of c.deref-kid-items.ensures.value
    ∙ c.self.view_is
