use Rattle.store_turn.proofs.turn.Turn.with_turn.Goals as goal

pub with_turn-requires-clause-grows : goal.with_turn-requires-clause-grows
with_turn-requires-clause-grows g c = rw (← c.seat.view_is) at c.requires.grows
