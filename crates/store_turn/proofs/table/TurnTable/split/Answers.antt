use Rattle.std.proofs.Common.{arith}
use Rattle.store_turn.proofs.Halves.{split_keeps}
use Rattle.store_turn.proofs.table.TurnTable.split.Goals as goal

pub split_seat-requires : goal.split_seat-requires
split_seat-requires g c = (
  c.requires.of,
  (let w = c.args.self.now.sized.0 in omega arith),
  λ s t at. split_keeps g.T.Grows.list g.T.Grows.base (g.T.Grows.base c.args.self.now.table.shared.key.value) s t c.args.seat.now.id c.args.seat.now.me.0 at c.requires.share c.requires.rests.no_ticket c.requires.rests.not_served c.requires.rests.not_read,
)
