-- Those that were looked at give no number: what the rest gives is given.
use Rattle.std.proofs.Common.{◌≡◌, drop}
use Rattle.books.specs.Books as books
use Rattle.sync_locks.proofs.limit.given.Given as goal

abbrev pub invariant-loop-limit : goal.invariant-loop-limit
invariant-loop-limit l = books.given l.limits l.lock.text ≡ books.given (drop l.limit-index l.limits) l.lock.text
