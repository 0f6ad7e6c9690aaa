-- Where the clock stands nothing wakes; else what rested until then does.
use Rattle.std.proofs.Common.{refl, sym, ◌∙◌, ap, true≢false}
use Rattle.wf_object.specs.Documents.{command_of}
use Rattle.sim_schedule.specs.declared.resting.Resting.{Resting}
use Rattle.sim_schedule.proofs.AtRest.{stood, moved}
use Rattle.sim_schedule.proofs.resting.Resting.move_on.Goals as goal
use Rattle.sim_schedule.proofs.resting.Resting.move_on.Goals.{then-any_falls, else-any_falls}

pub returns-then-clock-self : goal.returns-then-clock-self
returns-then-clock-self c = stood c.args.clock _ c.args.self.now c.if-clock-self.true

pub returns : goal.returns
returns c = elim c.if-any_falls.branch [
  | then-any_falls w ↦
      moved c.args.clock command_of c.args.commands.now c.args.self.now (record c.if-any_falls.self { clock = c.args.clock }) c.any_falls.result
      (ap (λ (r : Resting). r.names.keys) w.self-is ∙ c.clear.ensures.empty) (ap (λ (r : Resting). r.seen) w.self-is) refl c.any_falls.ensures
      (λ t. ap (λ (r : Resting). r.asleep.keys) w.self-is ∙ w.clear-then-any_falls.ensures.empty)
      (λ t. absurd (true≢false (sym w.if-any_falls.true ∙ t)))
  | else-any_falls w ↦
      moved c.args.clock command_of c.args.commands.now c.args.self.now (record c.if-any_falls.self { clock = c.args.clock }) c.any_falls.result
      (ap (λ (r : Resting). r.names.keys) w.self-is ∙ c.clear.ensures.empty) (ap (λ (r : Resting). r.seen) w.self-is) refl c.any_falls.ensures
      (λ t. absurd (true≢false (sym t ∙ w.if-any_falls.false)))
      (λ t. ap (λ (r : Resting). r.asleep.keys) w.self-is)
]
