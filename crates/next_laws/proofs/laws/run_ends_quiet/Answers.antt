-- The law, proved beside the others.
use Rattle.next_laws.proofs.RunsQuiet.{run_ends_quiet}
use Rattle.next_laws.proofs.laws.run_ends_quiet.Goals as goal

pub returns : goal.returns
returns c = run_ends_quiet
