use Rattle.std.proofs.Common.{◌≡◌, false, take}
use Rattle.std.specs.List.{list_any}
use Rattle.sync_locks.specs.Book.{is_of_workflow}
use Rattle.sync_locks.specs.declared.holder.Holder.{Holder}
use Rattle.sync_locks.specs.Inside.Rows.{is_at}
use Rattle.sync_locks.proofs.requests.Requests.has_of.Given as goal

-- those that were looked at are of other workflows
abbrev pub invariant-loop-holder : goal.invariant-loop-holder
invariant-loop-holder l = list_any (λ (h : Holder). is_at (is_of_workflow l.workflow) l.self h.place) (take l.holder-index l.holders) ≡ false
