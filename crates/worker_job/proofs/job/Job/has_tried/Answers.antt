-- The last name stands first in the views.
use Rattle.worker_job.proofs.Changed.{tried_before}
use Rattle.worker_job.proofs.job.Job.has_tried.Goals as goal

pub returns : goal.returns
returns c =
    tried_before c.self.inside c.args.self.now c.args.name.now c.as_slice.result.now c.is_among.result c.self.view_is
    c.is_among.ensures c.as_slice.ensures
