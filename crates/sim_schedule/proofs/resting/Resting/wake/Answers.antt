-- An entry of a workflow, or of its pods, wakes it.
use Rattle.std.proofs.Common.{ap}
use Rattle.rest_laws.specs.Rest.{concerns}
use Rattle.sim_schedule.proofs.AtRest.{woken}
use Rattle.sim_schedule.proofs.resting.Resting.wake.Goals as goal

pub returns-in-Submit : goal.returns-in-Submit
returns-in-Submit c = woken _ c.args.entry.now c.args.self.now c.drop_one.new.self (λ name. ap (concerns name) c.in-Submit.is) c.drop_one.ensures

pub returns-in-Write : goal.returns-in-Write
returns-in-Write c = woken _ c.args.entry.now c.args.self.now c.drop_one-in-Write.new.self (λ name. ap (concerns name) c.in-Write.is) c.drop_one-in-Write.ensures

pub returns-in-Create : goal.returns-in-Create
returns-in-Create c = woken _ c.args.entry.now c.args.self.now c.drop_one-in-Create.new.self (λ name. ap (concerns name) c.in-Create.is) c.drop_one-in-Create.ensures

pub returns-in-Finish : goal.returns-in-Finish
returns-in-Finish c = woken _ c.args.entry.now c.args.self.now c.drop_one-in-Finish.new.self (λ name. ap (concerns name) c.in-Finish.is) c.drop_one-in-Finish.ensures
