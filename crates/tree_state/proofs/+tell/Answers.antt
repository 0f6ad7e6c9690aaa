use Rattle.std.proofs.Common.{◌+◌, [], ◌∷◌, List, drop, append_assoc, ap, ◌∙◌}
use Rattle.std.specs.Prelude.{map}
use Rattle.meaning.specs.declared.lines.Line.{Line}
use Rattle.meaning.specs.declared.lines.Line.TheVariants.{Stands, Asks}
use Rattle.meaning.specs.Lines.{Parts, Made, then_parts, lines_in, lines_over, lines_below}
use Rattle.tree_state.specs.declared.told.Told.{Told}
use Rattle.tree_state.specs.Telling.{told_with}
use Rattle.tree_state.specs.Inside.Kids.{parts_of}
use Rattle.tree_state.specs.Inside.Chunks.{all_of}
use Rattle.tree_state.proofs.Chunks.{chunk_told}
use Rattle.tree_state.proofs.Tellings.{kid_told, told_then}
use Rattle.tree_state.proofs.+tell.Goals as goal

pub chunk::Chunk::tell-loop-kid-preserved : goal.chunk::Chunk::tell-loop-kid-preserved
chunk::Chunk::tell-loop-kid-preserved t c =
    let kids = c.deref-kid-items.result.now in
    ap (λ (x : Told). told_with x (lines_below (parts_of (drop (c.loop-kid.kid-index + 1) kids)))) c.in_ok-tell.ensures
    ∙ kid_told c.loop-kid.told kids c.loop-kid.kid-index c.kid-item.result c.loop-kid-test.true c.kid-item.is
    ∙ c.loop-kid.invariant

pub filled::Filled::tell-loop-chunk-preserved : goal.filled::Filled::tell-loop-chunk-preserved
filled::Filled::tell-loop-chunk-preserved t c =
    let cs = c.deref-chunk-items.result.now in
    let rest = then_parts (all_of (drop (c.loop-chunk.chunk-index + 1) cs)) c.self.inside.last in
    ap (λ (x : Told). told_with x (lines_below rest)) (c.in_ok-tell.ensures ∙ ap (λ (p : Parts). told_with c.loop-chunk.told (lines_below p)) c.deref.ensures)
    ∙ chunk_told c.loop-chunk.told cs c.self.inside.last c.loop-chunk.chunk-index c.chunk-item.result c.loop-chunk-test.true c.chunk-item.is
    ∙ c.loop-chunk.invariant

pub state::State::tell-returns : goal.state::State::tell-returns
state::State::tell-returns t c =
    let old = c.self.inside in
    let told = c.args.told.now in
    c.in_ok-tell.ensures
    ∙ ap (λ (x : Told). told_with x (lines_below old.below)) c.in_ok-add_node.ensures
    ∙ told_then told (lines_over old.node old.wants []) (lines_below old.below)
    ∙ ap (λ (ls : List Line). told_with told (Stands old.node ∷ ls)) (append_assoc (map Asks old.wants) [] (lines_below old.below))
    ∙ ap (λ (m : Made). told_with told (lines_in m)) c.self.view_is
