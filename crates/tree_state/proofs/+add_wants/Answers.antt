use Rattle.std.proofs.Common.{◌++◌, ap, ◌∙◌}
use Rattle.meaning.specs.Lines.{Parts, Made, then_parts, lines_in, lines_below}
use Rattle.tree_state.specs.declared.sum.Sum.{Sum}
use Rattle.tree_state.specs.Inside.Kids.{parts_of}
use Rattle.tree_state.specs.Inside.Chunks.{all_of}
use Rattle.tree_state.proofs.Kids.{made_of}
use Rattle.tree_state.proofs.Listings.{lists_none, kid_listed, chunk_listed, node_listed}
use Rattle.tree_state.proofs.OfKind.{among}
use Rattle.tree_state.proofs.+add_wants.Goals as goal

pub chunk::Chunk::add_wants-returns-then-not-of : goal.chunk::Chunk::add_wants-returns-then-not-of
chunk::Chunk::add_wants-returns-then-not-of t c =
    let k = c.args.kind in
    let was = c.args.wants.now in
    lists_none k was (lines_below (parts_of c.self.inside.kids.items)) c.self.inside.sum.asks c.of.result (ap (λ (s : Sum). s.asks) c.self.invariant) c.of.ensures c.if-not-of.true
    ∙ ap (λ (q : Parts). was ++ among k (lines_below q)) c.self.view_is

pub filled::Filled::add_wants-returns-then-not-of : goal.filled::Filled::add_wants-returns-then-not-of
filled::Filled::add_wants-returns-then-not-of t c =
    let k = c.args.kind in
    let was = c.args.wants.now in
    let p = then_parts (all_of c.self.inside.full.items) c.self.inside.last in
    lists_none k was (lines_below p) c.self.inside.sum.asks c.of.result (ap (λ (s : Sum). s.asks) c.self.invariant) c.of.ensures c.if-not-of.true
    ∙ ap (λ (q : Parts). was ++ among k (lines_below q)) c.self.view_is

pub chunk::Chunk::add_wants-loop-kid-preserved : goal.chunk::Chunk::add_wants-loop-kid-preserved
chunk::Chunk::add_wants-loop-kid-preserved t c =
    kid_listed c.args.kind c.deref-kid-items.result.now c.loop-kid.kid-index c.kid-item.result c.loop-kid.wants _ _ c.loop-kid-test.true c.kid-item.is c.in_ok-add_wants.ensures c.loop-kid.invariant

pub filled::Filled::add_wants-loop-chunk-preserved : goal.filled::Filled::add_wants-loop-chunk-preserved
filled::Filled::add_wants-loop-chunk-preserved t c =
    let k = c.args.kind in
    chunk_listed k c.deref-chunk-items.result.now c.self.inside.last c.loop-chunk.chunk-index c.chunk-item.result c.loop-chunk.wants _ _ c.loop-chunk-test.true c.chunk-item.is
    (c.in_ok-add_wants.ensures ∙ ap (λ (q : Parts). c.loop-chunk.wants ++ among k (lines_below q)) c.deref.ensures) c.loop-chunk.invariant

pub state::State::add_wants-returns : goal.state::State::add_wants-returns
state::State::add_wants-returns t c =
    let k = c.args.kind in
    let was = c.args.wants.now in
    node_listed k (made_of c.self.inside) was _ _ c.in_ok-add_those.ensures c.in_ok-add_wants.ensures
    ∙ ap (λ (m : Made). was ++ among k (lines_in m)) c.self.view_is
