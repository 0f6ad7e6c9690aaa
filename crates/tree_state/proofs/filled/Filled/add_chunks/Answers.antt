use Rattle.std.proofs.Common.{sym}
use Rattle.tree_state.proofs.Kids.{then_nothing}
use Rattle.tree_state.proofs.Inserts.{chunks_more}
use Rattle.tree_state.proofs.filled.Filled.add_chunks.Goals as goal

pub loop-chunk-init : goal.loop-chunk-init
loop-chunk-init c = sym (then_nothing c.args.self.now)

pub loop-chunk-preserved : goal.loop-chunk-preserved
loop-chunk-preserved c = chunks_more c.args.self.now c.args.chunks.now c.loop-chunk.chunk-index c.chunk-item.result c.loop-chunk.self c.add_chunk.new.self c.loop-chunk-test.true c.chunk-item.is c.loop-chunk.invariant c.in_ok-add_chunk.ensures
