use Rattle.std.proofs.Common.{ap, ◌∙◌}
use Rattle.meaning.specs.Lines.{Parts, Made, lines_in, lines_below}
use Rattle.tree_state.proofs.Kids.{made_of}
use Rattle.tree_state.proofs.Chunks.{chunk_has, chunk_lacks}
use Rattle.tree_state.proofs.Firsts.{kid_has, kid_lacks, begins_below}
use Rattle.tree_state.proofs.Readings.{beginning_among, beginnings_then}
use Rattle.tree_state.proofs.+first_beginning.Goals as goal

pub filled::Filled::first_beginning-returns-in-Some : goal.filled::Filled::first_beginning-returns-in-Some
filled::Filled::first_beginning-returns-in-Some t c =
    chunk_has (beginning_among) (beginnings_then) c.deref-chunk-items.result.now c.self.inside.last c.loop-chunk.chunk-index c.chunk-item.result c.in-Some.path.now (beginning_among (lines_below c.args.self.now)) c.loop-chunk-test.true c.chunk-item.is c.loop-chunk.invariant (c.in-Some.ensures ∙ ap (λ (p : Parts). beginning_among (lines_below p)) c.deref.ensures)

pub filled::Filled::first_beginning-loop-chunk-preserved : goal.filled::Filled::first_beginning-loop-chunk-preserved
filled::Filled::first_beginning-loop-chunk-preserved t c =
    chunk_lacks (beginning_among) (beginnings_then) c.deref-chunk-items.result.now c.self.inside.last c.loop-chunk.chunk-index c.chunk-item.result (beginning_among (lines_below c.args.self.now)) c.loop-chunk-test.true c.chunk-item.is c.loop-chunk.invariant (c.in_default.ensures ∙ ap (λ (p : Parts). beginning_among (lines_below p)) c.deref.ensures)

pub chunk::Chunk::first_beginning-returns-in-Some : goal.chunk::Chunk::first_beginning-returns-in-Some
chunk::Chunk::first_beginning-returns-in-Some t c =
    kid_has (beginning_among) (beginnings_then) c.deref-kid-items.result.now c.loop-kid.kid-index c.kid-item.result c.in-Some.path.now (beginning_among (lines_below c.args.self.now)) c.loop-kid-test.true c.kid-item.is c.loop-kid.invariant c.in-Some.ensures

pub chunk::Chunk::first_beginning-loop-kid-preserved : goal.chunk::Chunk::first_beginning-loop-kid-preserved
chunk::Chunk::first_beginning-loop-kid-preserved t c =
    kid_lacks (beginning_among) (beginnings_then) c.deref-kid-items.result.now c.loop-kid.kid-index c.kid-item.result (beginning_among (lines_below c.args.self.now)) c.loop-kid-test.true c.kid-item.is c.loop-kid.invariant c.in_default.ensures

pub state::State::first_beginning-returns : goal.state::State::first_beginning-returns
state::State::first_beginning-returns t c =
    c.first_beginning.ensures ∙ begins_below (made_of c.self.inside) ∙ ap (λ (m : Made). beginning_among (lines_in m)) c.self.view_is
