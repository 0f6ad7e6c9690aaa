-- What the book tells is what the view of it tells.
use Rattle.std.proofs.Common.{ap}
use Rattle.worker_job.specs.Jobs.{OneJob}
use Rattle.worker_job.proofs.Filing.{known_by}
use Rattle.worker_job.proofs.job.Job.knows_of.Goals as goal

pub returns-in-Some : goal.returns-in-Some
returns-in-Some c =
    known_by c.self.inside.workflow c.args.self.now c.is_done.result c.args.object.now c.in-Some.book.now c.args.self.now.views.book
    (ap (λ (j : OneJob). j.workflow) c.self.view_is) c.in-Some.ensures c.is_done.ensures
