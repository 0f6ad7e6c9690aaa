-- The timers of the tree that is kept are those that are meant.
use Rattle.std.proofs.Common.{List, ap, ◌∙◌}
use Rattle.meaning.specs.declared.lines.Line.{Line}
use Rattle.meaning.specs.Trees.{wants_in}
use Rattle.tree_state.specs.Finding.{next_tick}
use Rattle.tree_incr.proofs.Found.{lines_kept}
use Rattle.tree_incr.proofs.state.TreeState.next_timer.Goals as goal

pub returns : goal.returns
returns c =
    c.next_timer.ensures ∙ ap (λ (ls : List Line). next_tick c.args.clock (wants_in ls)) (lines_kept c.lines_are_meant.ensures c.self.inside c.args.self.now c.self.invariant c.self.view_is c.deref.result.now c.deref.ensures)
