-- The nodes of the tree that is kept are those that are meant.
use Rattle.std.proofs.Common.{List, ap, ◌∙◌}
use Rattle.std.specs.List.{find}
use Rattle.meaning.specs.declared.lines.Line.{Line}
use Rattle.meaning.specs.Trees.{nodes_in}
use Rattle.tree_incr.proofs.Found.{lines_kept}
use Rattle.tree_incr.proofs.state.TreeState.find_node.Goals as goal

pub returns : goal.returns
returns g c =
    c.find_node.ensures ∙ ap (λ (ls : List Line). find (g.T.NodeTest.accepts c.args.test.now) (nodes_in ls)) (lines_kept c.lines_are_meant.ensures c.self.inside c.args.self.now c.self.invariant c.self.view_is c.deref.result.now c.deref.ensures)
