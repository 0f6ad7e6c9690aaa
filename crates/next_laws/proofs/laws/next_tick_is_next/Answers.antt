-- The law, proved beside the others.
use Rattle.next_laws.proofs.Ticks.{next_tick_is_next}
use Rattle.next_laws.proofs.laws.next_tick_is_next.Goals as goal

pub returns : goal.returns
returns c = next_tick_is_next
