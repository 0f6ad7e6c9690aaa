-- Where no request of the workflow for a path that passes holds, no path that holds passes.
use Rattle.std.proofs.Common.{◌≡◌, true, false, List, ap, subst}
use Rattle.std.specs.Prelude.{MatchOption}
use Rattle.books.specs.declared.Request.{Request}
use Rattle.sync_locks.specs.Book.{Book, is_held, is_held_where, key_by}
use Rattle.sync_locks.proofs.Holders.{found_or_none}
use Rattle.sync_locks.proofs.book.LockBook.find_held.Goals as goal

pub returns : goal.returns
returns g c =
    let w = c.args.workflow.now in
    let test = g.T.PathTest.accepts c.args.test.now in
    found_or_none w test c.args.self.now.requests c.find_held.result
    (subst (λ (rs : List Request). MatchOption c.find_held.result (is_held_where w test rs ≡ false) (λ path. (is_held (key_by w path.now) rs ≡ true) × (test path.now ≡ true)))
    (ap (λ (b : Book). b.requests) c.self.view_is) c.find_held.ensures)
