-- Its end is known, as those of the others are.
use Rattle.std.proofs.Common.{sym, subst}
use Rattle.std.specs.Prelude.{IfSome}
use Rattle.sim_schedule.specs.Inside.Jobs.{KnowsEnd, KnowsEnds}
use Rattle.sim_schedule.proofs.Ends.{knows_more}
use Rattle.sim_schedule.proofs.jobs.add.Goals as goal

pub returns-in_ok-push-clause-ends : goal.returns-in_ok-push-clause-ends
returns-in_ok-push-clause-ends c = λ D h known is.
    subst (KnowsEnds D h) (sym c.in_ok-push.ensures.ok)
    (knows_more D h c.args.jobs.now c.in-Some.job known (subst (λ o. IfSome o (KnowsEnd D h)) c.in-Some.is is))
