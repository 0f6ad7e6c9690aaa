use Rattle.std.proofs.Common.{◌≡◌, drop}
use Rattle.std.specs.List.{find}
use Rattle.books.specs.Laws.{is_of}
use Rattle.sync_locks.specs.Book.{key_by}
use Rattle.sync_locks.specs.Inside.Rows.{is_at}
use Rattle.sync_locks.proofs.requests.Requests.find_in.Given as goal

-- the requests at the places before are not of this key
abbrev pub invariant-loop-i : goal.invariant-loop-i
invariant-loop-i l = find (is_at (is_of (key_by l.workflow l.path)) l.self) (drop l.i l.bucket) ≡ find (is_at (is_of (key_by l.workflow l.path)) l.self) l.bucket
