-- The status speaks of no fault where nothing failed.
use Rattle.wf_program.proofs.Complete.{complete_by}
use Rattle.wf_program.proofs.top.argo.Goals as goal

pub returns-clause-complete : goal.returns-clause-complete
returns-clause-complete g c = complete_by _ _ c.run_words.ensures.did
