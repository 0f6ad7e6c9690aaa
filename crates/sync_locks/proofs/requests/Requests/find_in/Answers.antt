-- The request at the place is of this key, or the first one that is stands behind it.
use Rattle.std.proofs.Common.{◌≡◌, sym, ◌∙◌, ap}
use Rattle.std.specs.Prelude.{Some, slice_get, option_copied}
use Rattle.books.specs.Laws.{is_of}
use Rattle.sync_locks.specs.Book.{key_by}
use Rattle.sync_locks.specs.Inside.Rows.{is_at}
use Rattle.sync_locks.proofs.Tabled.{found_here, found_later}
use Rattle.sync_locks.proofs.requests.Requests.find_in.Goals as goal

pub returns-then-is_by : goal.returns-then-is_by
returns-then-is_by c =
    let there : slice_get c.args.bucket.now c.loop-i.i ≡ Some c.unwrap.result.now = sym c.get.ensures ∙ ap option_copied c.unwrap.ensures in
    found_here (is_at (is_of (key_by c.args.workflow.now c.args.path.now)) c.args.self.now) c.args.bucket.now c.loop-i.i c.unwrap.result.now there (sym c.is_by.ensures ∙ c.if-is_by.true) c.loop-i.invariant

pub loop-i-preserved : goal.loop-i-preserved
loop-i-preserved c =
    let there : slice_get c.args.bucket.now c.loop-i.i ≡ Some c.unwrap.result.now = sym c.get.ensures ∙ ap option_copied c.unwrap.ensures in
    found_later (is_at (is_of (key_by c.args.workflow.now c.args.path.now)) c.args.self.now) c.args.bucket.now c.loop-i.i c.unwrap.result.now there (sym c.is_by.ensures ∙ c.if-is_by.false) c.loop-i.invariant
