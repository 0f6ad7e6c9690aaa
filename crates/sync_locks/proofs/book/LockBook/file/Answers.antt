-- The request is added with the state that the room of its lock gives it.
use Rattle.std.proofs.Common.{List, sym, ◌∙◌, ap}
use Rattle.tree_types.specs.declared.entry.Limit.{Limit}
use Rattle.books.specs.Books.{limit_of}
use Rattle.sync_locks.proofs.Events.{filed_row, filed_kept}
use Rattle.sync_locks.proofs.book.LockBook.file.Goals as goal

pub invariant_of-self-in-None : goal.invariant_of-self-in-None
invariant_of-self-in-None c =
    let key = c.args.key in
    let lock = c.args.lock in
    let limits = c.self.inside.limits.value in
    let rs = c.self.inside.requests in
    let limit = c.limit_of.ensures ∙ ap (λ (x : List Limit). limit_of x lock.text) c.deref.ensures in
    filed_kept c.files_once.ensures limits rs lock key c.args.rank c.self.invariant c.stays_well_kept.ensures.files (sym c.state_in.ensures ∙ c.in-None.is) c.add.new.self
    (c.in_ok-add-in-None.ensures.ok ∙ filed_row c.files_once.ensures limits rs lock key c.args.rank c.self.invariant c.holders_of-holders.result c.limit_of.result c.new_state-state.result c.holders_of-holders.ensures limit c.new_state-state.ensures)
