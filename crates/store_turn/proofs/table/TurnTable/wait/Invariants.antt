use Rattle.std.proofs.Common.{◌≡◌}
use Rattle.store_turn.specs.Inside.Turns.{Holds}
use Rattle.store_turn.proofs.table.TurnTable.wait.Given as goal

abbrev pub invariant-looks : goal.invariant-looks
invariant-looks g l =
    (l.seat.table_id ≡ l.self.table.shared.table_id) × Holds l.fn.seat.me.0 l.ticket l.seat.me
