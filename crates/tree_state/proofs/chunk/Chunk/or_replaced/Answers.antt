use Rattle.meaning.specs.Lines.{then_parts}
use Rattle.tree_state.specs.Inside.Kids.{replaced_by}
use Rattle.tree_state.proofs.Kids.{replaces_next}
use Rattle.tree_state.proofs.chunk.Chunk.or_replaced.Goals as goal

pub loop-kid-preserved : goal.loop-kid-preserved
loop-kid-preserved c = λ rest.
    replaces_next c.deref-kid-items.result.now c.loop-kid.kid-index c.kid-item.result c.in_ok-or_replaced.field-0 c.loop-kid.chunk c.add.new.self rest (replaced_by (then_parts c.args.self.now rest) c.args.left.now c.args.call.now) c.loop-kid.left c.or_replaced.new.left c.loop-kid.call c.or_replaced.new.call c.loop-kid-test.true c.kid-item.is c.in_ok-or_replaced.ensures c.in_ok-add.ensures.ok (c.loop-kid.invariant rest)
