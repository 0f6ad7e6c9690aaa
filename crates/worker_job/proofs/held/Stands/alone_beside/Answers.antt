-- Where no other path is such, the one that is such is the only one.
use Rattle.worker_job.specs.Inside.Held.{such}
use Rattle.worker_job.proofs.Holding.{only_path}
use Rattle.worker_job.proofs.held.Stands.alone_beside.Goals as goal

pub returns-in-None : goal.returns-in-None
returns-in-None c = (
  c.requires.holds,
  c.requires.such,
  λ q holds is.
      only_path q c.args.path.now (such c.args.self.now.standing c.args.self.now.object.now q) (c.in-None.ensures q holds) is,
)
