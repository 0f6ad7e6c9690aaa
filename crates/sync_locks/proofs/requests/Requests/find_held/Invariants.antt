-- None so far is of the workflow and for a path that passes.
use Rattle.std.proofs.Common.{◌≡◌, false, take}
use Rattle.std.specs.List.{list_any}
use Rattle.sync_locks.specs.Book.{is_where}
use Rattle.sync_locks.specs.declared.holder.Holder.{Holder}
use Rattle.sync_locks.specs.Inside.Rows.{is_at}
use Rattle.sync_locks.proofs.requests.Requests.find_held.Given as goal

abbrev pub invariant-loop-holder : goal.invariant-loop-holder
invariant-loop-holder g l =
    list_any (λ (h : Holder). is_at (is_where l.workflow (g.T.PathTest.accepts l.test)) l.self h.place) (take l.holder-index l.holder-items) ≡ false
