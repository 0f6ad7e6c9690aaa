-- The new entries, and the clock.
use Rattle.std.proofs.Common.{map, ◌∙◌, subst}
use Rattle.wf_object.specs.Documents.{law_of, command_of}
use Rattle.sim_schedule.specs.Inside.Restings.{MovesOn}
use Rattle.sim_schedule.proofs.AtRest.{followed_now}
use Rattle.sim_schedule.proofs.resting.Resting.follow.Goals as goal

pub returns : goal.returns
returns g c = λ known.
    followed_now (law_of c.args.document.now) c.workflows_rest.ensures c.args.store.now.history c.args.self.now c.wake_all.new.self c.move_on.new.self
    c.as_slice-entries.result.now (c.as_slice-entries.ensures ∙ c.entries.ensures) c.wake_all.ensures c.clock.result c.clock.ensures
    (subst (λ cs. MovesOn c.clock.result (map command_of cs) c.wake_all.new.self c.move_on.new.self) c.as_slice.ensures c.move_on.ensures)
    known
