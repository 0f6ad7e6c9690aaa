-- Of both it is gone.
use Rattle.std.proofs.Common.{refl}
use Rattle.sim_schedule.specs.Inside.Restings.{rests_in, sleeps_in}
use Rattle.sim_schedule.proofs.AtRest.{left_in}
use Rattle.sim_schedule.proofs.resting.Resting.drop_one.Goals as goal

pub returns : goal.returns
returns c = record {
  sight = record { seen = refl; clock = refl };
  rest = λ name t. left_in c.args.workflow.now name (rests_in name c.args.self.now) _ (c.swap_remove.ensures.updates.0 name) t;
  sleep = λ name t. left_in c.args.workflow.now name (sleeps_in name c.args.self.now) _ (c.swap_remove-2.ensures.updates.0 name) t;
}
