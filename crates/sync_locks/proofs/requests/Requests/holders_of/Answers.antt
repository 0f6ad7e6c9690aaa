-- Those that are counted hold a lock, and all that do are counted.
use Rattle.std.proofs.Common.{List, cond, ◌∙◌, ap}
use Rattle.std.specs.List.{count_by}
use Rattle.books.specs.declared.Request.{Request}
use Rattle.books.specs.Books.{holders}
use Rattle.sync_locks.specs.Inside.Queues.{is_for}
use Rattle.sync_locks.specs.declared.holder.Holder.{Holder}
use Rattle.sync_locks.proofs.Bucketed.{sum_at_places}
use Rattle.sync_locks.proofs.Turns.{counted}
use Rattle.sync_locks.proofs.requests.Requests.holders_of.Goals as goal

pub returns : goal.returns
returns c =
    let lock = c.args.lock.now.text in
    let asked = c.self.inside.asked in
    c.count_for.ensures
    ∙ ap (λ (hs : List Holder). count_by (λ (h : Holder). is_for lock asked h.place) hs) c.as_slice.ensures.value
    ∙ sum_at_places (λ n. cond (is_for lock asked n) 1 0) c.self.inside.holding.items
    ∙ c.self.invariant.kept.held (λ n. cond (is_for lock asked n) 1 0)
    ∙ counted lock asked c.self.inside.states
    ∙ ap (λ (rs : List Request). holders lock rs) c.self.view_is
