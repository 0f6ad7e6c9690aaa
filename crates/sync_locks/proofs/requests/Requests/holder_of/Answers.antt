-- A key without a request holds nothing, and with one what the request at its place says.
use Rattle.std.proofs.Common.{◌≡◌, Some, option_map, true≢false, sym, ◌∙◌, ap}
use Rattle.books.specs.declared.LockState.{LockState}
use Rattle.books.specs.declared.LockState.TheVariants.{Holding}
use Rattle.books.specs.Laws.{is_of}
use Rattle.sync_locks.specs.Book.{state_in}
use Rattle.sync_locks.specs.Inside.Rows.{state_of}
use Rattle.sync_locks.proofs.Places.{none_there}
use Rattle.sync_locks.proofs.Changes.{no_state, request_placed, within}
use Rattle.sync_locks.proofs.requests.Requests.holder_of.Goals as goal
use Rattle.sync_locks.proofs.requests.Requests.holder_of.Goals.{in-Holding, in_default}

pub state-requires : goal.state-requires
state-requires c = within c.args.self.now (is_of c.args.key.now) c.in-Some.place (sym c.find.ensures ∙ c.in-Some.is)

pub returns-in-None : goal.returns-in-None
returns-in-None c h = no_state c.args.key.now c.args.self.now Holding (none_there (is_of c.args.key.now) c.args.self.now (sym c.find.ensures ∙ c.in-None.is)) h

pub returns-then-matches : goal.returns-then-matches
returns-then-matches c =
    let placed = sym c.find.ensures ∙ c.in-Some.is in
    let stands : Some c.state.result ≡ state_in c.args.key.now c.args.self.now = c.state.ensures ∙ ap (option_map state_of) (request_placed c.args.key.now c.args.self.now c.in-Some.place placed) in (
      placed,
      elim c.match-matches.branch [
        | in-Holding w ↦ sym stands ∙ ap Some w.in-Holding.is
        | in_default w ↦ absurd (true≢false (sym c.if-matches.true ∙ w.matches-is))
      ],
    )

same : (s : LockState) → Some s ≡ Some Holding → s ≡ Holding
same s e = cc

pub returns-else-matches : goal.returns-else-matches
returns-else-matches c h =
    let placed = sym c.find.ensures ∙ c.in-Some.is in
    let stands : Some c.state.result ≡ state_in c.args.key.now c.args.self.now = c.state.ensures ∙ ap (option_map state_of) (request_placed c.args.key.now c.args.self.now c.in-Some.place placed) in
    elim c.match-matches.branch [
      | in-Holding w ↦ true≢false (sym w.matches-is ∙ c.if-matches.false)
      | in_default w ↦ w.in_default.not-Holding (same c.state.result (stands ∙ h))
    ]
