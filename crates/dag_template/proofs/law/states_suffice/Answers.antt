-- The states of the tasks suffice.
use Rattle.dag_template.proofs.Suffice.{suffice}
use Rattle.dag_template.proofs.law.states_suffice.Goals as goal

pub returns : goal.returns
returns c = suffice c.rounds_settle.ensures
