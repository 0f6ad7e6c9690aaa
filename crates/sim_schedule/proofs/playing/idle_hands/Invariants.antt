-- So many hands so far.
use Rattle.std.proofs.Common.{◌≡◌}
use Rattle.std.specs.Prelude.{replicate}
use Rattle.next_step.specs.Hands.{idle_hand}
use Rattle.sim_schedule.proofs.playing.idle_hands.Given as goal

abbrev pub invariant-hands : goal.invariant-hands
invariant-hands l = l.hands.items ≡ replicate l.made idle_hand
