use Rattle.recorded.specs.Ends.{note_if}
use Rattle.recorded.proofs.Lent.{end_kept}
use Rattle.recorded.proofs.ended.Ended.by.Goals as goal

-- src/recorded.rt:13:5
pub returns : goal.returns
returns c = end_kept (note_if c.args.carried) c.args.outcome.now
