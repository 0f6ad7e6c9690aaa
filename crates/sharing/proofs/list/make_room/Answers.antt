-- The last chunk is full, and becomes one of the others.
use Rattle.std.proofs.Common.{◌≤◌, length, arith}
use Rattle.sharing.proofs.Places.{filled_up, filled_same}
use Rattle.sharing.proofs.list.make_room.Goals as goal

pub returns-clause-chunked : goal.returns-clause-chunked
returns-clause-chunked g c =
    let long : 64 ≤ length c.args.last.now = omega arith in
    rw (c.in_ok-push.ensures.ok, c.in_ok-copy.ensures, c.in_ok-empty.ensures) (filled_up c.args.full.now c.args.last.now c.requires long)

pub returns-clause-same : goal.returns-clause-same
returns-clause-same g c =
    rw (c.in_ok-push.ensures.ok, c.in_ok-copy.ensures, c.in_ok-empty.ensures) (filled_same c.args.full.now c.args.last.now)
