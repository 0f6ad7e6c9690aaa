-- A holder of the workflow whose path passes holds its lock; where there is none, none does.
use Rattle.std.proofs.Common.{◌<◌, List, length, get_or, sym, ◌∙◌, ap, subst}
use Rattle.std.specs.Prelude.{slice_get}
use Rattle.std.specs.List.{list_any}
use Rattle.std.proofs.lemmas.List.{take_all}
use Rattle.tree_types.specs.declared.entry.HolderKey.{HolderKey}
use Rattle.books.specs.declared.Request.{Request}
use Rattle.books.specs.Books.{is_holding}
use Rattle.sync_locks.specs.Book.{is_where, is_held}
use Rattle.sync_locks.specs.Inside.Rows.{is_at}
use Rattle.sync_locks.specs.Inside.Queues.{Lists}
use Rattle.sync_locks.specs.declared.holder.Holder.{Holder}
use Rattle.sync_locks.specs.Inside.Holders.{places_in}
use Rattle.sync_locks.proofs.Bucketed.{any_at_places}
use Rattle.sync_locks.proofs.Holders.{any_listed, holds_there}
use Rattle.sync_locks.proofs.requests.Requests.find_held.Goals as goal

abbrev no_holder : Holder
no_holder = record { place = 0; bucket = 0 }

pub returns-in-Some : goal.returns-in-Some
returns-in-Some g c =
    let hs = c.self.inside.holding.items in
    let rs = c.args.self.now in
    let at = c.in-Some.ensures in
    let here = ap (λ (xs : List Holder). slice_get rs (get_or xs c.loop-holder.holder-index no_holder).place) (sym c.deref-holder-items.ensures.value) ∙ at.1 in
    let within = subst (λ (xs : List Holder). c.loop-holder.holder-index < length xs) c.deref-holder-items.ensures.value c.loop-holder-test.true in (
      ap (λ (k : HolderKey). is_held k rs) (sym at.2)
          ∙ holds_there hs rs (subst (λ (x : List Request). Lists is_holding (places_in hs) x) c.self.view_is c.self.invariant.kept.held) c.loop-holder.holder-index no_holder within at.0 here c.requires,
      at.3,
    )

pub returns : goal.returns
returns g c =
    let such = is_where c.args.workflow.now (g.T.PathTest.accepts c.args.test.now) in
    let rs = c.args.self.now in
    let hs = c.self.inside.holding.items in
    sym (any_listed is_holding such (places_in hs) rs (subst (λ (x : List Request). Lists is_holding (places_in hs) x) c.self.view_is c.self.invariant.kept.held))
    ∙ sym (any_at_places (is_at such rs) hs)
    ∙ ap (list_any (λ (h : Holder). is_at such rs h.place)) (sym c.deref-holder-items.ensures.value ∙ sym (take_all c.loop-holder.holder-index c.deref-holder-items.result.now c.loop-holder-test.false))
    ∙ c.loop-holder.invariant
