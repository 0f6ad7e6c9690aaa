use Rattle.std.proofs.Common.{Bool, ap, ◌∙◌}
use Rattle.tree_types.specs.declared.want.Want.{Want}
use Rattle.meaning.specs.Lines.{Parts, Made, then_parts, lines_in, lines_below}
use Rattle.tree_state.specs.declared.sum.Sum.{Sum}
use Rattle.tree_state.specs.Finding.{passes}
use Rattle.tree_state.specs.Inside.Kids.{parts_of}
use Rattle.tree_state.specs.Inside.Chunks.{all_of}
use Rattle.tree_state.proofs.Kids.{made_of}
use Rattle.tree_state.proofs.Chunks.{chunk_has, chunk_lacks}
use Rattle.tree_state.proofs.Firsts.{kid_has, kid_lacks, own_has, own_lacks, asks_none}
use Rattle.tree_state.proofs.Found.{lacks_passing}
use Rattle.tree_state.proofs.Readings.{want_among, wants_then}
use Rattle.tree_state.proofs.+find_want.Goals as goal

pub filled::Filled::find_want-returns-in-Some : goal.filled::Filled::find_want-returns-in-Some
filled::Filled::find_want-returns-in-Some g t c =
    let f : Want → Bool = g.T.WantTest.accepts c.args.test.now in
    let p : Want → Bool = passes c.args.kind f in
    chunk_has (want_among p) (wants_then p) c.deref-chunk-items.result.now c.self.inside.last c.loop-chunk.chunk-index c.chunk-item.result c.in-Some.want.now (want_among p (lines_below c.args.self.now)) c.loop-chunk-test.true c.chunk-item.is c.loop-chunk.invariant (c.in-Some.ensures ∙ ap (λ (q : Parts). want_among p (lines_below q)) c.deref.ensures)

pub filled::Filled::find_want-loop-chunk-preserved : goal.filled::Filled::find_want-loop-chunk-preserved
filled::Filled::find_want-loop-chunk-preserved g t c =
    let f : Want → Bool = g.T.WantTest.accepts c.args.test.now in
    let p : Want → Bool = passes c.args.kind f in
    chunk_lacks (want_among p) (wants_then p) c.deref-chunk-items.result.now c.self.inside.last c.loop-chunk.chunk-index c.chunk-item.result (want_among p (lines_below c.args.self.now)) c.loop-chunk-test.true c.chunk-item.is c.loop-chunk.invariant (c.in_default.ensures ∙ ap (λ (q : Parts). want_among p (lines_below q)) c.deref.ensures)

pub chunk::Chunk::find_want-returns-in-Some : goal.chunk::Chunk::find_want-returns-in-Some
chunk::Chunk::find_want-returns-in-Some g t c =
    let f : Want → Bool = g.T.WantTest.accepts c.args.test.now in
    let p : Want → Bool = passes c.args.kind f in
    kid_has (want_among p) (wants_then p) c.deref-kid-items.result.now c.loop-kid.kid-index c.kid-item.result c.in-Some.want.now (want_among p (lines_below c.args.self.now)) c.loop-kid-test.true c.kid-item.is c.loop-kid.invariant c.in-Some.ensures

pub chunk::Chunk::find_want-loop-kid-preserved : goal.chunk::Chunk::find_want-loop-kid-preserved
chunk::Chunk::find_want-loop-kid-preserved g t c =
    let f : Want → Bool = g.T.WantTest.accepts c.args.test.now in
    let p : Want → Bool = passes c.args.kind f in
    kid_lacks (want_among p) (wants_then p) c.deref-kid-items.result.now c.loop-kid.kid-index c.kid-item.result (want_among p (lines_below c.args.self.now)) c.loop-kid-test.true c.kid-item.is c.loop-kid.invariant c.in_default.ensures

pub filled::Filled::find_want-returns-then-not-of : goal.filled::Filled::find_want-returns-then-not-of
filled::Filled::find_want-returns-then-not-of g t c =
    let f : Want → Bool = g.T.WantTest.accepts c.args.test.now in
    let p : Want → Bool = passes c.args.kind f in
    lacks_passing c.args.kind f (lines_below (then_parts (all_of c.self.inside.full.items) c.self.inside.last)) (asks_none c.args.kind (lines_below (then_parts (all_of c.self.inside.full.items) c.self.inside.last)) c.self.inside.sum.asks c.of.result (ap (λ (s : Sum). s.asks) c.self.invariant) c.of.ensures c.if-not-of.true) ∙ ap (λ (q : Parts). want_among p (lines_below q)) c.self.view_is

pub chunk::Chunk::find_want-returns-then-not-of : goal.chunk::Chunk::find_want-returns-then-not-of
chunk::Chunk::find_want-returns-then-not-of g t c =
    let f : Want → Bool = g.T.WantTest.accepts c.args.test.now in
    let p : Want → Bool = passes c.args.kind f in
    lacks_passing c.args.kind f (lines_below (parts_of c.self.inside.kids.items)) (asks_none c.args.kind (lines_below (parts_of c.self.inside.kids.items)) c.self.inside.sum.asks c.of.result (ap (λ (s : Sum). s.asks) c.self.invariant) c.of.ensures c.if-not-of.true) ∙ ap (λ (q : Parts). want_among p (lines_below q)) c.self.view_is

pub state::State::find_want-returns-in-Some : goal.state::State::find_want-returns-in-Some
state::State::find_want-returns-in-Some g t c =
    let f : Want → Bool = g.T.WantTest.accepts c.args.test.now in
    let p : Want → Bool = passes c.args.kind f in
    own_has p (made_of c.self.inside) c.in-Some.want.now c.in-Some.ensures ∙ ap (λ (m : Made). want_among p (lines_in m)) c.self.view_is

pub state::State::find_want-returns : goal.state::State::find_want-returns
state::State::find_want-returns g t c =
    let f : Want → Bool = g.T.WantTest.accepts c.args.test.now in
    let p : Want → Bool = passes c.args.kind f in
    c.find_want.ensures ∙ own_lacks p (made_of c.self.inside) c.in_default.ensures ∙ ap (λ (m : Made). want_among p (lines_in m)) c.self.view_is
