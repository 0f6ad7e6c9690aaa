use Rattle.std.proofs.Common.{◌≡◌, false}
use Rattle.std.specs.List.{AllWithin}
use Rattle.sync_locks.specs.Inside.Queues.{is_for}
use Rattle.sync_locks.proofs.queue.first_for.Given as goal

-- the places before are for other locks
abbrev pub invariant-loop-turn : goal.invariant-loop-turn
invariant-loop-turn l = AllWithin (λ p. is_for l.lock.text l.asked p ≡ false) l.waiting 0 l.turn
