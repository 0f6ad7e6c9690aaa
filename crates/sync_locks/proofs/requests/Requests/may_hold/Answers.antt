-- Where few hold, one of them is of the workflow, or none.
use Rattle.std.proofs.Common.{Bool, List, ◌&&◌, ◌||◌, sym, ◌∙◌, ap, subst}
use Rattle.std.specs.List.{list_any}
use Rattle.books.specs.declared.Request.{Request}
use Rattle.books.specs.Books.{is_holding}
use Rattle.sync_locks.specs.Book.{holds_now, is_of_workflow}
use Rattle.sync_locks.specs.Inside.Rows.{is_at}
use Rattle.sync_locks.specs.Inside.Queues.{Lists}
use Rattle.sync_locks.specs.declared.holder.Holder.{Holder}
use Rattle.sync_locks.specs.Inside.Holders.{places_in}
use Rattle.sync_locks.proofs.Bucketed.{any_at_places}
use Rattle.sync_locks.proofs.Holders.{any_listed}
use Rattle.sync_locks.proofs.requests.Requests.may_hold.Goals as goal

pub returns-else-has_many_holders : goal.returns-else-has_many_holders
returns-else-has_many_holders c =
    let w = c.args.workflow.now in
    let rs = c.args.self.now in
    let holding = places_in c.self.inside.holding.items in
    c.has_of.ensures
    ∙ ap (list_any (λ (h : Holder). is_at (is_of_workflow w) rs h.place)) c.as_slice.ensures.value
    ∙ any_at_places (is_at (is_of_workflow w) rs) c.self.inside.holding.items
    ∙ any_listed is_holding (is_of_workflow w) holding rs (subst (λ (x : List Request). Lists is_holding holding x) c.self.view_is c.self.invariant.kept.held)
    ∙ ap (λ (b : Bool). b || list_any (λ r. holds_now r && is_of_workflow w r) rs) (sym (sym c.has_many_holders.ensures ∙ c.if-has_many_holders.false))
