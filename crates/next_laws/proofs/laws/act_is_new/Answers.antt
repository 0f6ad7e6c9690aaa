-- The law, proved beside the others.
use Rattle.next_laws.proofs.Acting.{act_is_new}
use Rattle.next_laws.proofs.laws.act_is_new.Goals as goal

pub returns : goal.returns
returns c = act_is_new
