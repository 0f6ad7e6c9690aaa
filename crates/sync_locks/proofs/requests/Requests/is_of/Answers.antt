-- What was asked for at the place is of the workflow, or not.
use Rattle.std.proofs.Common.{sym, ◌∙◌, ap}
use Rattle.std.specs.Prelude.{slice_get, option_copied}
use Rattle.sync_locks.specs.Book.{is_of_workflow}
use Rattle.sync_locks.proofs.Stands.{asked_seen, nothing_passes}
use Rattle.sync_locks.proofs.Holders.{workflow_passes}
use Rattle.sync_locks.proofs.requests.Requests.is_of.Goals as goal

pub returns-in-None : goal.returns-in-None
returns-in-None c =
    nothing_passes (is_of_workflow c.args.workflow.now) (slice_get c.args.self.now c.args.place)
    (sym (ap option_copied c.in-None.is) ∙ c.get.ensures ∙ asked_seen c.self.inside.asked c.self.inside.states c.args.self.now c.args.place c.self.invariant.kept.each_stands c.self.view_is)

pub returns-in-Some : goal.returns-in-Some
returns-in-Some c =
    c.eq.ensures
    ∙ workflow_passes c.args.workflow.now (slice_get c.args.self.now c.args.place) c.in-Some.asked.now
    (sym (ap option_copied c.in-Some.is) ∙ c.get.ensures ∙ asked_seen c.self.inside.asked c.self.inside.states c.args.self.now c.args.place c.self.invariant.kept.each_stands c.self.view_is)
