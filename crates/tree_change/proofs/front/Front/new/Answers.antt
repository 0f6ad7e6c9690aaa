-- Groups of which nothing has asked for a tag.
use Rattle.tree_change.proofs.Tagging.{seen_first}
use Rattle.tree_change.proofs.front.Front.new.Goals as goal

pub returns : goal.returns
returns c groups made none =
    (made, seen_first c.is_empty-tagged.result c.in_ok-scope.scope c.args.scope.now groups.scope c.args.states c.in_ok-scope.ensures c.is_empty-tagged.ensures.0 none)
