use Rattle.std.proofs.Common.{◌≡◌, ◌==◌, false}
use Rattle.std.specs.List.{AllWithin}
use Rattle.sync_locks.specs.declared.holder.Holder.{Holder}
use Rattle.sync_locks.proofs.queue.position_of.Given as goal

-- those before are others
abbrev pub invariant-loop-i : goal.invariant-loop-i
invariant-loop-i l = AllWithin (λ (h : Holder). (h.place == l.place) ≡ false) l.holders 0 l.i
