-- A pod that runs is asked for.
use Rattle.std.proofs.Common.{ap, ◌∙◌}
use Rattle.std.specs.List.{find}
use Rattle.tree_types.specs.Places.{sels_eq}
use Rattle.meaning.specs.Answers.{Sels}
use Rattle.meaning.specs.Trees.{tree}
use Rattle.tree_incr.proofs.Counted.{is_asked}
use Rattle.tree_incr.proofs.state.TreeState.runs_pod.Goals as goal

pub returns-in-Some : goal.returns-in-Some
returns-in-Some c on =
    let w = c.args.self.now in
    is_asked c.waits_ask.ensures w.manifest w.facts c.args.path.now c.in-Some.node.now
    (c.in-Some.ensures ∙ ap (λ (s : Sels). find (λ o. sels_eq o.path.sels s) (tree w.manifest w.facts)) c.as_slice.ensures)
    (c.is_running_pod.ensures on)
