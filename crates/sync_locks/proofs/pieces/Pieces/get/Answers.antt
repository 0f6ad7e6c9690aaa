-- It is in this piece, or behind it.
use Rattle.std.proofs.Common.{◌≡◌, ◌+◌, ◌-◌, ◌<◌, ◌≤◌, List, length, get_or, drop, Some, Vec, Global, sym, ap, subst, ◌∙◌}
use Rattle.std.specs.Prelude.{slice_get}
use Rattle.std.proofs.lemmas.Option.{slice_get-get_or}
use Rattle.sync_locks.specs.Inside.Pieces.{joined}
use Rattle.sync_locks.proofs.Pieced.{got_here, got_behind}
use Rattle.sync_locks.proofs.pieces.Pieces.get.Goals as goal

pub returns-then-left-items : goal.returns-then-left-items
returns-then-left-items g c =
    let items = c.piece-item.result.value.items in
    let same : c.as_slice-items.result.now ≡ items = c.as_slice-items.ensures.value ∙ ap (λ (v : Vec g.row.T.Denot Global). v.items) c.deref-in-loop-piece.ensures in
    let here : c.loop-piece.left < length items = subst (λ (xs : List g.row.T.Denot). c.loop-piece.left < length xs) same c.if-left-items.true in
    ap Some (c.index-items-left.is ∙ ap (λ (xs : List g.row.T.Denot). get_or xs c.loop-piece.left c.index-items-left.result) same)
    ∙ sym (slice_get-get_or items c.loop-piece.left c.index-items-left.result here)
    ∙ sym (got_here c.deref-piece-items.result.now c.loop-piece.piece-index c.piece-item.result c.loop-piece-test.true c.piece-item.is c.loop-piece.left here)
    ∙ c.loop-piece.invariant

pub loop-piece-preserved : goal.loop-piece-preserved
loop-piece-preserved g c =
    let items = c.piece-item.result.value.items in
    let same : c.as_slice-items.result.now ≡ items = c.as_slice-items.ensures.value ∙ ap (λ (v : Vec g.row.T.Denot Global). v.items) c.deref-in-loop-piece.ensures in
    let behind : length items ≤ c.loop-piece.left = subst (λ (xs : List g.row.T.Denot). length xs ≤ c.loop-piece.left) same c.if-left-items.false in
    ap (λ (xs : List g.row.T.Denot). slice_get (joined (drop (c.loop-piece.piece-index + 1) c.deref-piece-items.result.now)) (c.loop-piece.left - length xs)) same
    ∙ sym (got_behind c.deref-piece-items.result.now c.loop-piece.piece-index c.piece-item.result c.loop-piece-test.true c.piece-item.is c.loop-piece.left behind)
    ∙ c.loop-piece.invariant
