-- It is behind the piece.
use Rattle.std.proofs.Common.{◌≡◌, ◌++◌, List, ℕ, Vec, Global, Option, ap, sym, ◌∙◌, arith}
use Rattle.std.specs.List.{insert}
use Rattle.sync_locks.specs.Inside.Pieces.{joined, put}
use Rattle.sync_locks.proofs.Pieced.{put_later}
use Rattle.sync_locks.proofs.pieces.add_piece_with.Goals as goal

pub returns-in_ok-add_shared-in-Some : goal.returns-in_ok-add_shared-in-Some
returns-in_ok-add_shared-in-Some g c more =
    let out = joined c.args.pieces.now.items in
    let xs = c.as_slice-items.result.now in
    let same : xs ≡ c.args.piece.now.value.items = c.as_slice-items.ensures.value ∙ ap (λ (v : Vec g.row.T.Denot Global). v.items) c.deref.ensures in
    put_later out (joined c.add_shared-else-position-items.new.pieces.items) xs more c.in-Some.position c.args.item (omega (arith, c.if-position-items.false)) (c.in_ok-add_shared-in-Some.ensures ∙ ap (λ (ys : List g.row.T.Denot). out ++ ys) (sym same))
    ∙ ap (λ (ys : List g.row.T.Denot). out ++ insert (ys ++ more) c.in-Some.position c.args.item) same
    ∙ ap (λ (l : Option ℕ). out ++ put (c.args.piece.now.value.items ++ more) l c.args.item) (sym c.in-Some.is)
