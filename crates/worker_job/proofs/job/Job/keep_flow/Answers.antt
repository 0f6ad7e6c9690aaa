-- What is known of the locks is of the workflow in the content.
use Rattle.worker_job.proofs.Filing.{fits_flow}
use Rattle.worker_job.proofs.job.Job.keep_flow.Goals as goal

pub set_flow-requires-clause-filed : goal.set_flow-requires-clause-filed
set_flow-requires-clause-filed c =
    fits_flow c.knows_of-filed.result c.args.self.now.workflow c.in-Some.object.now c.args.snapshot c.args.self.now.views.book c.in-Some.ensures c.knows_of-filed.ensures
