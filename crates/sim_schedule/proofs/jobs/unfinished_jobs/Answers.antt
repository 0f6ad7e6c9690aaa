-- One job more.
use Rattle.std.proofs.Common.{true, false, ◌∙◌, ap, refl, sym}
use Rattle.sim_schedule.specs.Inside.Jobs.{given, if_left}
use Rattle.sim_schedule.proofs.Ends.{one_left}
use Rattle.sim_schedule.proofs.jobs.unfinished_jobs.Goals as goal

pub loop-job-preserved-in-Continue-branch-2 : goal.loop-job-preserved-in-Continue-branch-2
loop-job-preserved-in-Continue-branch-2 g c = λ D lawful known.
    one_left D c.args.store.now.history c.loop-job.yielded c.loop-job.left c.in-Some.job true c.push.new.self
    (c.loop-job.invariant D lawful)
    (λ end. ap (λ b. if_left b (given c.in-Some.job)) (sym c.if-branch.true) ∙ c.in_ok-is_left.ensures D lawful end)
    c.in_ok-push.ensures.ok known

pub loop-job-preserved-else-branch : goal.loop-job-preserved-else-branch
loop-job-preserved-else-branch g c = λ D lawful known.
    one_left D c.args.store.now.history c.loop-job.yielded c.loop-job.left c.in-Some.job false c.loop-job.left
    (c.loop-job.invariant D lawful)
    (λ end. ap (λ b. if_left b (given c.in-Some.job)) (sym c.if-branch.false) ∙ c.in_ok-is_left.ensures D lawful end)
    refl known

pub loop-job-preserved : goal.loop-job-preserved
loop-job-preserved g c = λ D lawful known.
    one_left D c.args.store.now.history c.loop-job.yielded c.loop-job.left c.in-Some.job false c.loop-job.left
    (c.loop-job.invariant D lawful)
    (λ end. ap (λ b. if_left b (given c.in-Some.job)) (sym c.if-branch.false) ∙ c.in_ok-is_left.ensures D lawful end)
    refl known
