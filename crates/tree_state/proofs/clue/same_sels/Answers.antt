use Rattle.std.proofs.Common.{◌∙◌}
use Rattle.tree_types.proofs.Sels.{sels_tested}
use Rattle.tree_state.proofs.clue.same_sels.Goals as goal

pub returns : goal.returns
returns c = c.eq.ensures ∙ sels_tested c.args.a.now c.args.b.now
