-- Where few hold, one of them is of the key, or none; else the request at the place of the key tells.
use Rattle.std.proofs.Common.{◌≡◌, List, Some, option_map, sym, ◌∙◌, ap, subst}
use Rattle.std.specs.List.{list_any}
use Rattle.books.specs.declared.Request.{Request}
use Rattle.books.specs.Books.{is_holding}
use Rattle.books.specs.Laws.{is_of}
use Rattle.sync_locks.specs.Book.{key_by, state_in, holds}
use Rattle.sync_locks.specs.Inside.Rows.{state_of}
use Rattle.sync_locks.specs.Inside.Queues.{Lists}
use Rattle.sync_locks.specs.Inside.Holders.{places_in, is_there}
use Rattle.sync_locks.proofs.Bucketed.{any_there}
use Rattle.sync_locks.proofs.Places.{none_there}
use Rattle.sync_locks.proofs.Changes.{request_nowhere, request_placed, within}
use Rattle.sync_locks.proofs.Holders.{any_listed, held_alone, held_state, holding_not}
use Rattle.sync_locks.proofs.requests.Requests.holds.Goals as goal

pub returns-then-not-has_many_holders : goal.returns-then-not-has_many_holders
returns-then-not-has_many_holders c =
    let key = key_by c.args.workflow.now c.args.path.now in
    let rs = c.args.self.now in
    let holding = places_in c.self.inside.holding.items in
    c.is_among.ensures
    ∙ ap (list_any (is_there c.bucket_of-bucket.result (is_of key) rs)) c.as_slice.ensures.value
    ∙ any_there c.self.inside.asked c.self.inside.states rs c.self.invariant.kept.each_stands c.self.view_is key c.bucket_of-bucket.result c.bucket_of-bucket.ensures.is c.self.inside.holding.items c.self.invariant.bucketed
    ∙ any_listed is_holding (is_of key) holding rs (subst (λ (x : List Request). Lists is_holding holding x) c.self.view_is c.self.invariant.kept.held)
    ∙ held_alone key rs c.requires

pub state-requires : goal.state-requires
state-requires c = within c.args.self.now (is_of (key_by c.args.workflow.now c.args.path.now)) c.in-Some.place (sym c.find.ensures ∙ c.in-Some.is)

pub returns-in-None : goal.returns-in-None
returns-in-None c =
    let key = key_by c.args.workflow.now c.args.path.now in
    sym (ap holds (request_nowhere key c.args.self.now (none_there (is_of key) c.args.self.now (sym c.find.ensures ∙ c.in-None.is))))

pub returns-in-Holding : goal.returns-in-Holding
returns-in-Holding c =
    let key = key_by c.args.workflow.now c.args.path.now in
    let stands : Some c.state.result ≡ state_in key c.args.self.now = c.state.ensures ∙ ap (option_map state_of) (request_placed key c.args.self.now c.in-Some.place (sym c.find.ensures ∙ c.in-Some.is)) in
    sym (held_state key c.args.self.now c.state.result stands ∙ ap is_holding c.in-Holding.is)

pub returns-in_default : goal.returns-in_default
returns-in_default c =
    let key = key_by c.args.workflow.now c.args.path.now in
    let stands : Some c.state.result ≡ state_in key c.args.self.now = c.state.ensures ∙ ap (option_map state_of) (request_placed key c.args.self.now c.in-Some.place (sym c.find.ensures ∙ c.in-Some.is)) in
    sym (held_state key c.args.self.now c.state.result stands ∙ holding_not c.state.result c.in_default.not-Holding)
