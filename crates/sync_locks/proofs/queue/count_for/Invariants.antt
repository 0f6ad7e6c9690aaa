use Rattle.std.proofs.Common.{◌≡◌, ◌≤◌, take}
use Rattle.std.specs.List.{count_by}
use Rattle.sync_locks.specs.declared.holder.Holder.{Holder}
use Rattle.sync_locks.specs.Inside.Queues.{is_for}
use Rattle.sync_locks.proofs.queue.count_for.Given as goal

-- those that were looked at are counted
abbrev pub invariant-loop-holder : goal.invariant-loop-holder
invariant-loop-holder l = record {
  few : l.count ≤ l.holder-index;
  is : l.count ≡ count_by (λ (h : Holder). is_for l.lock.text l.asked h.place) (take l.holder-index l.holders);
}
