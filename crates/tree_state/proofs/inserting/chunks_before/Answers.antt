use Rattle.std.proofs.Common.{false, sym, ap, ◌∙◌}
use Rattle.meaning.specs.Lines.{Parts}
use Rattle.tree_state.specs.Inserting.{ends_later}
use Rattle.tree_state.proofs.Inserts.{chunks_end}
use Rattle.tree_state.proofs.inserting.chunks_before.Goals as goal

pub loop-i-preserved : goal.loop-i-preserved
loop-i-preserved c =
    chunks_end c.args.at c.args.chunks.now c.loop-i.i c.index-chunks-i.result c.loop-i-test.true c.index-chunks-i.is c.loop-i.invariant
    (ap (λ (p : Parts). ends_later c.args.at false p) (sym c.deref.ensures) ∙ c.ends_later.ensures c.if-ends_later.false)
