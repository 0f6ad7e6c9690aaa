-- The workflow in the content is what goes on.
use Rattle.std.proofs.Common.{sym}
use Rattle.worker_job.proofs.Filing.{fits_flow}
use Rattle.worker_job.proofs.job.Job.go_on.Goals as goal

pub filed_at-filed-requires : goal.filed_at-filed-requires
filed_at-filed-requires c = λ s viewed. c.requires.goes_on s c.in-Some.object.now viewed (sym c.in-Some.ensures)

pub set_flow-requires-clause-filed : goal.set_flow-requires-clause-filed
set_flow-requires-clause-filed c =
    fits_flow c.filed_at-filed.result c.args.self.now.workflow c.in-Some.object.now c.args.snapshot c.args.self.now.views.book c.in-Some.ensures c.filed_at-filed.ensures

pub marks_at-requires : goal.marks_at-requires
marks_at-requires c = λ s viewed. c.requires.goes_on s c.in-Some.object.now viewed (sym c.in-Some.ensures)
