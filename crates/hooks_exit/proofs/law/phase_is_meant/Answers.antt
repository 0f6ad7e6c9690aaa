-- The phase of a workflow is the one that is meant.
use Rattle.hooks_exit.proofs.Meant.{meant}
use Rattle.hooks_exit.proofs.law.phase_is_meant.Goals as goal

pub returns : goal.returns
returns c = meant
