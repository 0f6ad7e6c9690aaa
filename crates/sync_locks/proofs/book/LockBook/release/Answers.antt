-- The release of a request at its place is that of the definitions.
use Rattle.std.proofs.Common.{◌∙◌, ap, List}
use Rattle.books.specs.declared.Request.{Request}
use Rattle.sync_locks.specs.Book.{with_freed}
use Rattle.sync_locks.proofs.Events.{freed_rows, freed_kept, stands_so}
use Rattle.sync_locks.proofs.book.LockBook.release.Goals as goal

pub release-requires : goal.release-requires
release-requires c = stands_so c.self.inside.requests c.args.key.now c.in-Some.place c.in-Some.ensures.0 c.in-Some.ensures.1

pub invariant_of-self-in-Some : goal.invariant_of-self-in-Some
invariant_of-self-in-Some c =
    freed_kept c.releases_once.ensures c.stays_well_kept.ensures.frees c.self.inside.limits.value c.self.inside.requests c.release.new.self c.args.key.now c.in-Some.place c.self.invariant c.in-Some.ensures.0 c.in-Some.ensures.1 c.in_ok-release-in-Some.ensures.ok

pub returns-in_ok-release-in-Some-clause-ok : goal.returns-in_ok-release-in-Some-clause-ok
returns-in_ok-release-in-Some-clause-ok c =
    let limits = c.self.inside.limits.value in
    ap (λ (x : List Request). record { limits = limits; requests = x })
    (freed_rows c.releases_once.ensures c.stays_well_kept.ensures.frees limits c.self.inside.requests c.release.new.self c.args.key.now c.in-Some.place c.self.invariant c.in-Some.ensures.0 c.in-Some.ensures.1 c.in_ok-release-in-Some.ensures.ok)
    ∙ ap (with_freed c.args.key.now) c.self.view_is
