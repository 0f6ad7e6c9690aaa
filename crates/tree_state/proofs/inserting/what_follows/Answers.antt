use Rattle.std.proofs.Common.{sym, ap, ◌∙◌}
use Rattle.std.specs.Prelude.{option_copied}
use Rattle.tree_state.proofs.Alone.{lent}
use Rattle.tree_state.proofs.Inserts.{kid_begins}
use Rattle.tree_state.proofs.inserting.what_follows.Goals as goal

pub returns-then-begins_later : goal.returns-then-begins_later
returns-then-begins_later c = λ rest.
    kid_begins c.args.at c.args.kids.now c.args.place c.in-Some.kid.now rest
    (sym (lent c.args.kids.now c.args.place c.get.result c.get.ensures.lookup) ∙ ap (λ r. option_copied r) c.in-Some.is)
    (c.begins_later.ensures c.if-begins_later.true)
