-- One piece more.
use Rattle.std.proofs.Common.{◌++◌, List, ap, ◌∙◌}
use Rattle.sync_locks.specs.Inside.Pieces.{joined}
use Rattle.sync_locks.proofs.Pieced.{joined_more}
use Rattle.sync_locks.proofs.pieces.add_without.Goals as goal

pub returns : goal.returns
returns g c =
    ap joined c.in_ok-push.ensures.items
    ∙ joined_more c.args.pieces.now.items c.in_ok-piece_without.field-0
    ∙ ap (λ (xs : List g.row.T.Denot). joined c.args.pieces.now.items ++ xs) c.in_ok-piece_without.ensures
