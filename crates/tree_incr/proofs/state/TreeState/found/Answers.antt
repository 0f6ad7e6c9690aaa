-- What stands on the way and fits is the one that fits.
use Rattle.std.proofs.Common.{List, subst}
use Rattle.meaning.specs.declared.lines.Line.{Line}
use Rattle.meaning.specs.Answers.{answers}
use Rattle.tree_state.specs.Finding.{IsFound}
use Rattle.tree_incr.specs.Workflows.{Workflow}
use Rattle.tree_incr.proofs.Found.{lines_kept, found_is_first, valid_of}
use Rattle.tree_incr.proofs.state.TreeState.found.Goals as goal

pub returns-in-Some : goal.returns-in-Some
returns-in-Some c =
    let w : Workflow = c.args.self.now in
    let same = lines_kept c.lines_are_meant.ensures c.self.inside c.args.self.now c.self.invariant c.self.view_is c.deref.result.now c.deref.ensures in
    found_is_first w.manifest (answers w.facts) c.one_path.ensures c.one_name.ensures c.valid_are_apart.ensures
    (valid_of c.self.inside w c.self.invariant c.self.view_is)
    c.args.clue.now c.in-Some.node.now
    (subst (λ (ls : List Line). IsFound c.args.clue.now ls c.in-Some.node.now) same c.in-Some.ensures)
