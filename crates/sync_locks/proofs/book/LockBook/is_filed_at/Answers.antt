-- A request that was filed is found by its key.
use Rattle.std.proofs.Common.{subst, sym, ◌∙◌}
use Rattle.std.specs.Prelude.{IsSome}
use Rattle.sync_locks.specs.Book.{Book, key_by, state_in}
use Rattle.sync_locks.proofs.Keys.{filed_known}
use Rattle.sync_locks.proofs.book.LockBook.is_filed_at.Goals as goal

pub returns-clause-known : goal.returns-clause-known
returns-clause-known c is =
    let key = key_by c.args.workflow.now c.args.path.now in
    subst (λ (book : Book). IsSome (state_in key book.requests)) c.self.view_is (filed_known key c.self.inside.requests c.args.place (sym c.is_by.ensures ∙ is))
