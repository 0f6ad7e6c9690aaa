-- The workflow is one more.
use Rattle.std.proofs.Common.{inl, refl, sym, ◌∙◌, ap}
use Rattle.history.specs.History.{clock_of}
use Rattle.law.specs.Contents.{flow_of}
use Rattle.next_step.specs.Hands.{for_flow}
use Rattle.next_step.specs.Ticks.{timers, least_above}
use Rattle.sim_schedule.specs.Inside.Jobs.{given}
use Rattle.sim_schedule.specs.Inside.Restings.{rests_in, sleeps_in}
use Rattle.sim_schedule.proofs.AtRest.{added_in, noted_in, asleep_in}
use Rattle.sim_schedule.proofs.resting.Resting.note.Goals as goal

pub returns-in_ok-insert : goal.returns-in_ok-insert
returns-in_ok-insert g c = record {
  sight = record { seen = refl; clock = refl };
  rest = λ name t. noted_in (given c.args.job.now) c.in_ok-name.name name (ap given c.in-Workflow.is ∙ ap for_flow (sym c.in_ok-name.ensures))
      (added_in c.in_ok-name.name name (rests_in name c.args.self.now) _ (c.in_ok-insert.ensures.updates.0 name) t);
  sleep = λ name t. inl t;
}

pub returns-in_ok-insert-2 : goal.returns-in_ok-insert-2
returns-in_ok-insert-2 g c = record {
  sight = record { seen = refl; clock = refl };
  rest = λ name t. inl t;
  sleep = λ name t.
      asleep_in c.args.store.now.history (given c.args.job.now) c.in_ok-name.name name c.in_ok-next_timer.field-0 c.is_some.result
      (ap given c.in-Workflow.is ∙ ap for_flow (sym c.in_ok-name.ensures))
      (c.in_ok-next_timer.ensures ∙ ap (λ w. least_above (clock_of c.args.store.now.history) (timers (flow_of c.args.store.now.history w))) (sym c.in_ok-name.ensures))
      c.is_some.ensures c.if-is_some.false
      (added_in c.in_ok-name.name name (sleeps_in name c.args.self.now) _ (c.in_ok-insert-2.ensures.updates.0 name) t);
}
