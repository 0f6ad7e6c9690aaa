-- What the book tells is of the workflow that the view shows.
use Rattle.std.proofs.Common.{ap}
use Rattle.worker_job.specs.Jobs.{OneJob}
use Rattle.worker_job.proofs.Filing.{known_all}
use Rattle.worker_job.proofs.job.Job.knows_all.Goals as goal

pub returns-in-Some : goal.returns-in-Some
returns-in-Some c =
    known_all c.args.self.now c.in-Some-Some.flow.now c.in-Some-Some.ensures c.self.inside.workflow c.is_done.result c.in-Some.object.now c.args.snapshot.now
    c.in-Some-Some.book.now (ap (λ (j : OneJob). j.workflow) c.self.view_is) c.in-Some.ensures c.in-Some-Some.ensures' c.is_done.ensures
