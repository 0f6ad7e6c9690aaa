-- Where none of the workflow's requests holds, no path of it does.
use Rattle.std.proofs.Common.{sym, ◌∙◌, ap}
use Rattle.sync_locks.specs.Book.{Book, may_hold}
use Rattle.sync_locks.proofs.Holders.{none_may}
use Rattle.sync_locks.proofs.book.LockBook.may_hold.Goals as goal

pub returns-clause-none : goal.returns-clause-none
returns-clause-none c none path =
    none_may c.args.workflow.now path c.args.self.now.requests
    (sym (c.may_hold.ensures ∙ ap (λ (b : Book). may_hold c.args.workflow.now b.requests) c.self.view_is) ∙ none)
