use Rattle.std.proofs.Common.{Bool, ap, ◌∙◌}
use Rattle.tree_types.specs.declared.node.Node.{Node}
use Rattle.meaning.specs.Lines.{Parts, Made, lines_in, lines_below}
use Rattle.tree_state.proofs.Kids.{made_of}
use Rattle.tree_state.proofs.Chunks.{chunk_has, chunk_lacks}
use Rattle.tree_state.proofs.Firsts.{kid_has, kid_lacks}
use Rattle.tree_state.proofs.Found.{own_fails}
use Rattle.tree_state.proofs.Readings.{node_among, nodes_then}
use Rattle.tree_state.proofs.+find_node.Goals as goal

pub filled::Filled::find_node-returns-in-Some : goal.filled::Filled::find_node-returns-in-Some
filled::Filled::find_node-returns-in-Some g t c =
    let p : Node → Bool = g.T.NodeTest.accepts c.args.test.now in
    chunk_has (node_among p) (nodes_then p) c.deref-chunk-items.result.now c.self.inside.last c.loop-chunk.chunk-index c.chunk-item.result c.in-Some.node.now (node_among p (lines_below c.args.self.now)) c.loop-chunk-test.true c.chunk-item.is c.loop-chunk.invariant (c.in-Some.ensures ∙ ap (λ (q : Parts). node_among p (lines_below q)) c.deref.ensures)

pub filled::Filled::find_node-loop-chunk-preserved : goal.filled::Filled::find_node-loop-chunk-preserved
filled::Filled::find_node-loop-chunk-preserved g t c =
    let p : Node → Bool = g.T.NodeTest.accepts c.args.test.now in
    chunk_lacks (node_among p) (nodes_then p) c.deref-chunk-items.result.now c.self.inside.last c.loop-chunk.chunk-index c.chunk-item.result (node_among p (lines_below c.args.self.now)) c.loop-chunk-test.true c.chunk-item.is c.loop-chunk.invariant (c.in_default.ensures ∙ ap (λ (q : Parts). node_among p (lines_below q)) c.deref.ensures)

pub chunk::Chunk::find_node-returns-in-Some : goal.chunk::Chunk::find_node-returns-in-Some
chunk::Chunk::find_node-returns-in-Some g t c =
    let p : Node → Bool = g.T.NodeTest.accepts c.args.test.now in
    kid_has (node_among p) (nodes_then p) c.deref-kid-items.result.now c.loop-kid.kid-index c.kid-item.result c.in-Some.node.now (node_among p (lines_below c.args.self.now)) c.loop-kid-test.true c.kid-item.is c.loop-kid.invariant c.in-Some.ensures

pub chunk::Chunk::find_node-loop-kid-preserved : goal.chunk::Chunk::find_node-loop-kid-preserved
chunk::Chunk::find_node-loop-kid-preserved g t c =
    let p : Node → Bool = g.T.NodeTest.accepts c.args.test.now in
    kid_lacks (node_among p) (nodes_then p) c.deref-kid-items.result.now c.loop-kid.kid-index c.kid-item.result (node_among p (lines_below c.args.self.now)) c.loop-kid-test.true c.kid-item.is c.loop-kid.invariant c.in_default.ensures

pub state::State::find_node-returns : goal.state::State::find_node-returns
state::State::find_node-returns g t c =
    let p : Node → Bool = g.T.NodeTest.accepts c.args.test.now in
    c.find_node.ensures ∙ own_fails p (made_of c.self.inside) c.accepts.result c.accepts.ensures c.if-accepts.false ∙ ap (λ (m : Made). node_among p (lines_in m)) c.self.view_is
