use Rattle.std.proofs.Common.{◌∙◌}
use Rattle.tree_types.proofs.Sels.{sel_tested}
use Rattle.tree_order.proofs.order.is_same.Goals as goal

pub returns : goal.returns
returns c = c.eq.ensures ∙ sel_tested c.args.sel c.args.other
