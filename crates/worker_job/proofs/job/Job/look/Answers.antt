use Rattle.worker_job.proofs.Looking.{looked}
use Rattle.worker_job.proofs.job.Job.look.Goals as goal

pub returns : goal.returns
returns c = looked c.self.inside c.args.self.now c.args.name.now c.last.result c.self.view_is c.last.ensures
