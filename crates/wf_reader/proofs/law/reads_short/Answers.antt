use Rattle.wf_reader.proofs.Kept.{reads_short}
use Rattle.wf_reader.proofs.law.reads_short.Goals as goal

pub returns : goal.returns
returns c = reads_short
