use Rattle.std.proofs.Common.{subst}
use Rattle.worker_job.specs.Inside.Filing.{FiledOf}
use Rattle.worker_job.proofs.job.Job.filed_at.Goals as goal

pub returns-then-is_still_filed : goal.returns-then-is_still_filed
returns-then-is_still_filed c =
    subst (λ b. FiledOf b c.args.self.now.workflow c.args.object.now c.args.self.now.views.book) c.if-is_still_filed.true c.is_still_filed.ensures
