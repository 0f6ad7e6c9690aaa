-- The wants of the tree that is kept are those that are meant.
use Rattle.std.proofs.Common.{Bool, List, ap, ◌∙◌}
use Rattle.std.specs.List.{find}
use Rattle.tree_types.specs.declared.want.Want.{Want}
use Rattle.meaning.specs.declared.lines.Line.{Line}
use Rattle.meaning.specs.Trees.{wants_in}
use Rattle.tree_state.specs.Finding.{passes}
use Rattle.tree_incr.proofs.Found.{lines_kept}
use Rattle.tree_incr.proofs.state.TreeState.find_want.Goals as goal

pub returns : goal.returns
returns g c =
    let p : Want → Bool = passes c.args.kind (g.T.WantTest.accepts c.args.test.now) in
    c.find_want.ensures ∙ ap (λ (ls : List Line). find p (wants_in ls)) (lines_kept c.lines_are_meant.ensures c.self.inside c.args.self.now c.self.invariant c.self.view_is c.deref.result.now c.deref.ensures)
