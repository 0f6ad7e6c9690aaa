-- The one that is known so far holds and stands so.
use Rattle.std.proofs.Common.{◌≡◌, true}
use Rattle.sync_locks.specs.Book.{is_held, key_by}
use Rattle.worker_job.specs.Inside.Held.{such}
use Rattle.worker_job.proofs.held.Stands.first_from.Given as goal

abbrev pub invariant-loop : goal.invariant-loop
invariant-loop l =
    (is_held (key_by l.workflow l.first) l.book.requests ≡ true) × (such l.self.standing l.self.object.now l.first ≡ true)
