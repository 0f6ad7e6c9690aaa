use Rattle.store_turn.proofs.Final.{closes}
use Rattle.store_turn.proofs.table.TurnTable.close.Goals as goal

pub returns-clause-seen : goal.returns-clause-seen
returns-clause-seen g c =
    let table = c.args.self.table.shared in
    let place = c.args.seat in
    (closes g.T.Grows.list g.T.Grows.base (g.T.Grows.base table.key.value) place.id place.me.0 _ _ c.take-value.result c.close_with-closed.ensures.values.2 c.requires.whole c.requires.rests.not_read c.take-value.ensures.value).0

pub returns-clause-base : goal.returns-clause-base
returns-clause-base g c =
    let table = c.args.self.table.shared in
    let place = c.args.seat in
    (closes g.T.Grows.list g.T.Grows.base (g.T.Grows.base table.key.value) place.id place.me.0 _ _ c.take-value.result c.close_with-closed.ensures.values.2 c.requires.whole c.requires.rests.not_read c.take-value.ensures.value).1
