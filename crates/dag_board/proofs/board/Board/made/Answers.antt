-- The node and what stands below it are those of the DAG.
use Rattle.std.proofs.Common.{◌++◌, [], ◌∙◌}
use Rattle.tree_types.specs.declared.node.Kind.TheVariants as kind
use Rattle.tree_types.specs.declared.node.Note.TheVariants as note
use Rattle.meaning.specs.Lines.{no_outputs, made}
use Rattle.meaning.specs.Outputs.{computed, ended_node}
use Rattle.meaning.specs.Dags.{standings, tasks_below, dag_tags}
use Rattle.dag_board.proofs.Endings.{parts_are}
use Rattle.dag_board.proofs.board.Board.made.Goals as goal

pub returns : goal.returns
returns c A called shown =
    let d = c.args.dag.now in
    let plan = c.args.plan.now in
    let place = c.args.place.now in
    let scope = c.args.scope.now in
    let declared = c.args.declared.now in
    let ss = standings A called place scope d in
    let end = c.in_ok-end.ensures A called place scope shown in
    let node = c.in_ok-node.ensures A called shown in
    let none = c.new.ensures in
    let below = c.in_ok-below.ensures
    ∙ parts_are d plan c.requires.plan c.args.self c.rounds_settle.ensures A called place scope shown c.in_ok-end.end.doomed in
    c.new-2.ensures ∙ (λ i. made (node i) (none i) (below i))
    ∙ (λ i. made
    (ended_node place kind.DAG (end.phase i) note.None no_outputs (computed (dag_tags ss ++ scope) declared)) []
    (tasks_below (end.doomed i) place 0 ss))
