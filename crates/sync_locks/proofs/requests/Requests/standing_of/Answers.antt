-- What the request at the place of the key asked for, and how it stands.
use Rattle.std.proofs.Common.{option_map, sym, ◌∙◌, ap}
use Rattle.std.specs.Prelude.{slice_get}
use Rattle.books.specs.Laws.{is_of}
use Rattle.sync_locks.specs.Book.{key_by, standing}
use Rattle.sync_locks.proofs.Places.{none_there}
use Rattle.sync_locks.proofs.Changes.{request_nowhere, request_placed, within}
use Rattle.sync_locks.proofs.Stands.{standing_told}
use Rattle.sync_locks.proofs.requests.Requests.standing_of.Goals as goal

pub asked-requires : goal.asked-requires
asked-requires c = within c.args.self.now (is_of (key_by c.args.workflow.now c.args.path.now)) c.in-Some.place (sym c.find.ensures ∙ c.in-Some.is)

pub state-requires : goal.state-requires
state-requires c = within c.args.self.now (is_of (key_by c.args.workflow.now c.args.path.now)) c.in-Some.place (sym c.find.ensures ∙ c.in-Some.is)

pub returns-in-None : goal.returns-in-None
returns-in-None c =
    let key = key_by c.args.workflow.now c.args.path.now in
    sym (ap (option_map standing) (request_nowhere key c.args.self.now (none_there (is_of key) c.args.self.now (sym c.find.ensures ∙ c.in-None.is))))

pub returns-in-Some : goal.returns-in-Some
returns-in-Some c =
    let key = key_by c.args.workflow.now c.args.path.now in
    standing_told (slice_get c.args.self.now c.in-Some.place) c.asked.result.now c.state.result c.asked.ensures c.state.ensures
    ∙ ap (option_map standing) (request_placed key c.args.self.now c.in-Some.place (sym c.find.ensures ∙ c.in-Some.is))
