use Rattle.std.proofs.Common.{◌≡◌, false, take}
use Rattle.std.specs.List.{list_any}
use Rattle.books.specs.Laws.{is_of}
use Rattle.sync_locks.specs.Book.{key_by}
use Rattle.sync_locks.specs.Inside.Holders.{is_there}
use Rattle.sync_locks.proofs.requests.Requests.is_among.Given as goal

-- those that were looked at are of other keys
abbrev pub invariant-loop-holder : goal.invariant-loop-holder
invariant-loop-holder l = list_any (is_there l.bucket (is_of (key_by l.workflow l.path)) l.self) (take l.holder-index l.holders) ≡ false
