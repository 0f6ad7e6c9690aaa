use Rattle.std.proofs.Common.{◌≡◌, ◌≤◌, ◌-◌, length, true, false, not}
use Rattle.std.specs.List.{AllWithin}
use Rattle.std.specs.List.Sorted.{IsPartitionedBy}
use Rattle.sync_locks.specs.Inside.Queues.{overtakes}
use Rattle.sync_locks.proofs.queue.turn_for.Given as goal

abbrev pub decreases-loop-low : goal.decreases-loop-low
decreases-loop-low l = l.high - l.low

-- where those that it does not overtake stand before the others, its turn is between
abbrev pub invariant-loop-low : goal.invariant-loop-low
invariant-loop-low l = record {
  order : l.low ≤ l.high;
  within : l.high ≤ length l.waiting;
  behind : IsPartitionedBy (λ p. not (overtakes l.rank l.asked p)) l.waiting → AllWithin (λ p. not (overtakes l.rank l.asked p) ≡ true) l.waiting 0 l.low;
  before : IsPartitionedBy (λ p. not (overtakes l.rank l.asked p)) l.waiting → AllWithin (λ p. not (overtakes l.rank l.asked p) ≡ false) l.waiting l.high (length l.waiting);
}
