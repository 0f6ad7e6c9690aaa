-- What was asked for at the place has the key, or not.
use Rattle.std.proofs.Common.{sym, ◌∙◌, ap}
use Rattle.std.specs.Prelude.{slice_get, option_copied}
use Rattle.books.specs.Laws.{is_of}
use Rattle.sync_locks.specs.Book.{key_by}
use Rattle.sync_locks.proofs.Stands.{asked_seen, nothing_passes, key_passes}
use Rattle.sync_locks.proofs.requests.Requests.is_by.Goals as goal

pub returns-in-None : goal.returns-in-None
returns-in-None c =
    nothing_passes (is_of (key_by c.args.workflow.now c.args.path.now)) (slice_get c.args.self.now c.args.place)
    (sym (ap option_copied c.in-None.is) ∙ c.get.ensures ∙ asked_seen c.self.inside.asked c.self.inside.states c.args.self.now c.args.place c.self.invariant.kept.each_stands c.self.view_is)

pub returns-in-Some : goal.returns-in-Some
returns-in-Some c =
    c.is_by.ensures
    ∙ key_passes (key_by c.args.workflow.now c.args.path.now) (slice_get c.args.self.now c.args.place) c.in-Some.asked.now
    (sym (ap option_copied c.in-Some.is) ∙ c.get.ensures ∙ asked_seen c.self.inside.asked c.self.inside.states c.args.self.now c.args.place c.self.invariant.kept.each_stands c.self.view_is)
