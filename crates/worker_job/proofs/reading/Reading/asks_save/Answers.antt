-- The first want of the kind is there where there is one.
use Rattle.std.proofs.Common.{◌∙◌}
use Rattle.worker_job.proofs.Wanted.{save_asked}
use Rattle.worker_job.proofs.reading.Reading.asks_save.Goals as goal

pub returns : goal.returns
returns c = c.is_some.ensures ∙ save_asked c.args.self.now c.state.result.now c.first_want.result c.state.ensures c.first_want.ensures
