-- No lock to be filed is found.
use Rattle.worker_job.proofs.Filing.{none_by_state}
use Rattle.worker_job.proofs.to_file.ToFile.is_done.Goals as goal

pub returns : goal.returns
returns c = λ none.
    none_by_state c.args.self.now.workflow.now c.args.self.now.book.now.requests c.args.object.now c.state.result.now c.find_want.result c.is_none.result
    c.state.ensures c.find_want.ensures c.is_none.ensures none
