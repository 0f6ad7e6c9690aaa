-- A list that solves the equations tells what follows.
use Rattle.dag_template.proofs.Told.{told}
use Rattle.dag_template.proofs.law.solved_is_told.Goals as goal

pub returns : goal.returns
returns c = told c.rounds_settle.ensures
