-- A group that asks for no tag sees all that it asks for.
use Rattle.std.proofs.Common.{take, sym, ◌∙◌}
use Rattle.tree_change.proofs.Tagging.{sees_unasked}
use Rattle.tree_change.proofs.front.Front.ready_for_group.Goals as goal

pub returns : goal.returns
returns c called place n is =
    (is, sees_unasked called place c.args.scope.now (take n c.args.groups.now) c.args.self.now.tagged c.args.self.now.row.scope c.args.calls.now c.if-self.false is.1 (sym c.in_ok-group_asks_for.ensures ∙ c.if-branch.false))
