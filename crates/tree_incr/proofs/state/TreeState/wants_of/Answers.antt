-- What the tree that is kept asks for is what is meant.
use Rattle.std.proofs.Common.{◌≡◌, List, subst}
use Rattle.std.specs.Prelude.{IfOk}
use Rattle.std.specs.List.{filter}
use Rattle.meaning.specs.declared.lines.Line.{Line}
use Rattle.meaning.specs.Trees.{wants_in}
use Rattle.tree_state.specs.Asking.{is_of}
use Rattle.tree_incr.proofs.Found.{lines_kept}
use Rattle.tree_incr.proofs.state.TreeState.wants_of.Goals as goal

pub returns : goal.returns
returns c =
    subst (λ (ls : List Line). IfOk c.wants_of.result (λ all. all ≡ filter (is_of c.args.kind) (wants_in ls)))
    (lines_kept c.lines_are_meant.ensures c.self.inside c.args.self.now c.self.invariant c.self.view_is c.deref.result.now c.deref.ensures)
    c.wants_of.ensures
