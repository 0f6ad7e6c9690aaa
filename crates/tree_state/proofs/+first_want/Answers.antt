use Rattle.std.proofs.Common.{ap, ◌∙◌}
use Rattle.meaning.specs.Lines.{Parts, Made, then_parts, lines_in, lines_below}
use Rattle.tree_state.specs.declared.sum.Sum.{Sum}
use Rattle.tree_state.specs.Asking.{is_of}
use Rattle.tree_state.specs.Inside.Kids.{parts_of}
use Rattle.tree_state.specs.Inside.Chunks.{all_of}
use Rattle.tree_state.proofs.Kids.{made_of}
use Rattle.tree_state.proofs.Chunks.{chunk_has, chunk_lacks}
use Rattle.tree_state.proofs.Firsts.{kid_has, kid_lacks, own_has, own_lacks, kind_lacks}
use Rattle.tree_state.proofs.Readings.{want_among, wants_then}
use Rattle.tree_state.proofs.+first_want.Goals as goal

pub filled::Filled::first_want-returns-in-Some : goal.filled::Filled::first_want-returns-in-Some
filled::Filled::first_want-returns-in-Some t c =
    chunk_has (want_among (is_of c.args.kind)) (wants_then (is_of c.args.kind)) c.deref-chunk-items.result.now c.self.inside.last c.loop-chunk.chunk-index c.chunk-item.result c.in-Some.want.now (want_among (is_of c.args.kind) (lines_below c.args.self.now)) c.loop-chunk-test.true c.chunk-item.is c.loop-chunk.invariant (c.in-Some.ensures ∙ ap (λ (p : Parts). want_among (is_of c.args.kind) (lines_below p)) c.deref.ensures)

pub filled::Filled::first_want-loop-chunk-preserved : goal.filled::Filled::first_want-loop-chunk-preserved
filled::Filled::first_want-loop-chunk-preserved t c =
    chunk_lacks (want_among (is_of c.args.kind)) (wants_then (is_of c.args.kind)) c.deref-chunk-items.result.now c.self.inside.last c.loop-chunk.chunk-index c.chunk-item.result (want_among (is_of c.args.kind) (lines_below c.args.self.now)) c.loop-chunk-test.true c.chunk-item.is c.loop-chunk.invariant (c.in_default.ensures ∙ ap (λ (p : Parts). want_among (is_of c.args.kind) (lines_below p)) c.deref.ensures)

pub chunk::Chunk::first_want-returns-in-Some : goal.chunk::Chunk::first_want-returns-in-Some
chunk::Chunk::first_want-returns-in-Some t c =
    kid_has (want_among (is_of c.args.kind)) (wants_then (is_of c.args.kind)) c.deref-kid-items.result.now c.loop-kid.kid-index c.kid-item.result c.in-Some.want.now (want_among (is_of c.args.kind) (lines_below c.args.self.now)) c.loop-kid-test.true c.kid-item.is c.loop-kid.invariant c.in-Some.ensures

pub chunk::Chunk::first_want-loop-kid-preserved : goal.chunk::Chunk::first_want-loop-kid-preserved
chunk::Chunk::first_want-loop-kid-preserved t c =
    kid_lacks (want_among (is_of c.args.kind)) (wants_then (is_of c.args.kind)) c.deref-kid-items.result.now c.loop-kid.kid-index c.kid-item.result (want_among (is_of c.args.kind) (lines_below c.args.self.now)) c.loop-kid-test.true c.kid-item.is c.loop-kid.invariant c.in_default.ensures

pub filled::Filled::first_want-returns-then-not-of : goal.filled::Filled::first_want-returns-then-not-of
filled::Filled::first_want-returns-then-not-of t c =
    kind_lacks c.args.kind (lines_below (then_parts (all_of c.self.inside.full.items) c.self.inside.last)) c.self.inside.sum.asks c.of.result (ap (λ (s : Sum). s.asks) c.self.invariant) c.of.ensures c.if-not-of.true ∙ ap (λ (p : Parts). want_among (is_of c.args.kind) (lines_below p)) c.self.view_is

pub chunk::Chunk::first_want-returns-then-not-of : goal.chunk::Chunk::first_want-returns-then-not-of
chunk::Chunk::first_want-returns-then-not-of t c =
    kind_lacks c.args.kind (lines_below (parts_of c.self.inside.kids.items)) c.self.inside.sum.asks c.of.result (ap (λ (s : Sum). s.asks) c.self.invariant) c.of.ensures c.if-not-of.true ∙ ap (λ (p : Parts). want_among (is_of c.args.kind) (lines_below p)) c.self.view_is

pub state::State::first_want-returns-in-Some : goal.state::State::first_want-returns-in-Some
state::State::first_want-returns-in-Some t c =
    own_has (is_of c.args.kind) (made_of c.self.inside) c.in-Some.want.now c.in-Some.ensures ∙ ap (λ (m : Made). want_among (is_of c.args.kind) (lines_in m)) c.self.view_is

pub state::State::first_want-returns : goal.state::State::first_want-returns
state::State::first_want-returns t c =
    c.first_want.ensures ∙ own_lacks (is_of c.args.kind) (made_of c.self.inside) c.in_default.ensures ∙ ap (λ (m : Made). want_among (is_of c.args.kind) (lines_in m)) c.self.view_is
