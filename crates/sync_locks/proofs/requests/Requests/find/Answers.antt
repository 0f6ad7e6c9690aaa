-- The request of the key is in the bucket of the key.
use Rattle.std.proofs.Common.{ℕ, List, ◌∙◌, ap}
use Rattle.std.specs.List.{find}
use Rattle.books.specs.Laws.{is_of}
use Rattle.sync_locks.specs.Book.{key_by}
use Rattle.sync_locks.specs.Inside.Rows.{is_at}
use Rattle.sync_locks.specs.Inside.Tables.{places_of}
use Rattle.sync_locks.proofs.Tabled.{found_in_bucket}
use Rattle.sync_locks.proofs.requests.Requests.find.Goals as goal

pub returns : goal.returns
returns c =
    let key = key_by c.args.workflow.now c.args.path.now in
    let rs = c.args.self.now in
    c.find_in.ensures
    ∙ ap (λ (places : List ℕ). find (is_at (is_of key) rs) places) c.bucket.ensures
    ∙ ap (λ (bucket : ℕ). find (is_at (is_of key) rs) (places_of bucket rs)) c.bucket_of.ensures.is
    ∙ found_in_bucket key rs
