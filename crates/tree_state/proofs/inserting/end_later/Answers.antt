use Rattle.std.proofs.Common.{◌-◌, length}
use Rattle.tree_state.proofs.Inserts.{last_ends, some_kid}
use Rattle.tree_state.proofs.inserting.end_later.Goals as goal

pub returns : goal.returns
returns c = λ off.
    last_ends c.args.at c.args.kids.now (length c.args.kids.now - 1) c.index-kids-kids.result (some_kid (length c.args.kids.now) c.if-is_empty.ensures) c.index-kids-kids.is (c.ends_later.ensures off)
