-- One job more.
use Rattle.std.proofs.Common.{◌≡◌, List, length, take, ◌∙◌, ap, refl, arith}
use Rattle.std.proofs.Math.Seq.{take-length}
use Rattle.std.specs.List.{flat_map}
use Rattle.history.specs.History.{clock_of}
use Rattle.next_step.specs.Ticks.{least_above}
use Rattle.tree_state.specs.Finding.{sooner}
use Rattle.sim_schedule.specs.declared.jobs.Job.{Job}
use Rattle.sim_schedule.specs.Inside.Jobs.{given}
use Rattle.sim_schedule.specs.Inside.Rosters.{ticks_of}
use Rattle.sim_schedule.proofs.Dues.{next_flat}
use Rattle.sim_schedule.proofs.Ends.{wait_at}
use Rattle.sim_schedule.proofs.due.next_of.Goals as goal

pub loop-job-init : goal.loop-job-init
loop-job-init g c = λ D all. refl

pub loop-job-preserved : goal.loop-job-preserved
loop-job-preserved g c = λ D all.
    c.sooner-next.ensures
    ∙ ap (sooner c.loop-job.next) (c.in_ok-next_by.ensures D (wait_at D c.args.store.now.history c.args.jobs.now c.loop-job.job-index c.job-item.result c.loop-job-test.true c.job-item.is all))
    ∙ next_flat (clock_of c.args.store.now.history) (λ j. ticks_of D c.args.store.now.history (given j)) c.args.jobs.now c.loop-job.job-index c.job-item.result c.loop-job.next c.loop-job-test.true c.job-item.is (c.loop-job.invariant D all)

pub returns : goal.returns
returns g c = λ D all.
    let at_end : c.loop-job.job-index ≡ length c.args.jobs.now = omega (arith, c.loop-job-test.false, c.loop-job.auto.job-index-end) in
    c.loop-job.invariant D all
    ∙ ap (λ (js : List Job). least_above (clock_of c.args.store.now.history) (flat_map (λ j. ticks_of D c.args.store.now.history (given j)) js)) (ap (λ k. take k c.args.jobs.now) at_end ∙ take-length c.args.jobs.now)
