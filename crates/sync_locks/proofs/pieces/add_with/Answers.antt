-- One piece more, or two halves.
use Rattle.std.proofs.Common.{◌++◌, ◌∷◌, [], List, ◌/◌, length, ap, ◌∙◌, arith}
use Rattle.sync_locks.specs.Inside.Pieces.{Piece, joined}
use Rattle.sync_locks.proofs.Pieced.{joined_more, put_in_front, put_in_back}
use Rattle.sync_locks.proofs.pieces.add_with.Goals as goal

pub returns-then-items-room : goal.returns-then-items-room
returns-then-items-room g c =
    ap joined c.in_ok-push.ensures.items
    ∙ joined_more c.args.pieces.now.items c.in_ok-piece_with.field-0
    ∙ ap (λ (xs : List g.row.T.Denot). joined c.args.pieces.now.items ++ xs) c.in_ok-piece_with.ensures

pub returns-in_ok-push-3 : goal.returns-in_ok-push-3
returns-in_ok-push-3 g c =
    ap joined (c.in_ok-push-3.ensures.items ∙ ap (λ (ps : List (Piece g.row.T.Denot)). ps ++ c.in_ok-piece_of.field-0 ∷ []) c.in_ok-push-2.ensures.items)
    ∙ put_in_front c.args.pieces.now.items c.in_ok-piece_with-2.field-0 c.in_ok-piece_of.field-0 c.args.items.now c.split_at.result.0.now c.split_at.result.1.now (length c.args.items.now / 2) c.args.position c.args.item
    c.split_at.ensures.front c.split_at.ensures.back (omega (arith, c.if-position-half.true, c.split_at.ensures.front_len)) c.in_ok-piece_with-2.ensures c.in_ok-piece_of.ensures

pub returns-in_ok-push-5 : goal.returns-in_ok-push-5
returns-in_ok-push-5 g c =
    ap joined (c.in_ok-push-5.ensures.items ∙ ap (λ (ps : List (Piece g.row.T.Denot)). ps ++ c.in_ok-piece_with-3.field-0 ∷ []) c.in_ok-push-4.ensures.items)
    ∙ put_in_back c.args.pieces.now.items c.in_ok-piece_of-2.field-0 c.in_ok-piece_with-3.field-0 c.args.items.now c.split_at.result.0.now c.split_at.result.1.now (length c.args.items.now / 2) c.args.position c.args.item
    c.split_at.ensures.front c.split_at.ensures.back (omega (arith, c.split_at.ensures.front_len)) (omega (arith, c.if-position-half.false)) c.in_ok-piece_of-2.ensures c.in_ok-piece_with-3.ensures
