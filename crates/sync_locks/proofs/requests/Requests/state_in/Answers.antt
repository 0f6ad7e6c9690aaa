-- How the request at the place of the key stands.
use Rattle.std.proofs.Common.{option_map, sym, ◌∙◌, ap}
use Rattle.books.specs.Laws.{is_of}
use Rattle.sync_locks.specs.Inside.Rows.{state_of}
use Rattle.sync_locks.proofs.Places.{none_there}
use Rattle.sync_locks.proofs.Changes.{request_nowhere, request_placed, within}
use Rattle.sync_locks.proofs.requests.Requests.state_in.Goals as goal

pub state-requires : goal.state-requires
state-requires c = within c.args.self.now (is_of c.args.key.now) c.in-Some.place (sym c.find.ensures ∙ c.in-Some.is)

pub returns-in-None : goal.returns-in-None
returns-in-None c = sym (ap (option_map state_of) (request_nowhere c.args.key.now c.args.self.now (none_there (is_of c.args.key.now) c.args.self.now (sym c.find.ensures ∙ c.in-None.is))))

pub returns-in-Some : goal.returns-in-Some
returns-in-Some c = c.state.ensures ∙ ap (option_map state_of) (request_placed c.args.key.now c.args.self.now c.in-Some.place (sym c.find.ensures ∙ c.in-Some.is))
