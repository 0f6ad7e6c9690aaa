use Rattle.std.proofs.Common.{ap, ◌∙◌, ◌++◌, Vec, Global}
use Rattle.sync_locks.specs.Inside.Pieces.{joined}
use Rattle.sync_locks.proofs.Pieced.{joined_more}
use Rattle.sync_locks.proofs.pieces.add_shared.Goals as goal

pub returns : goal.returns
returns g c =
    ap joined c.in_ok-push.ensures.items
    ∙ joined_more c.args.pieces.now.items c.in_ok-try_clone.field-0
    ∙ ap (λ (v : Vec g.row.T.Denot Global). joined c.args.pieces.now.items ++ v.items) c.in_ok-try_clone.ensures
