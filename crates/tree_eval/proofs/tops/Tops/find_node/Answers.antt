-- The first of the entrypoint, else of the exit handler.
use Rattle.std.proofs.Common.{ap, ◌∙◌}
use Rattle.std.specs.Prelude.{Bool}
use Rattle.tree_types.specs.declared.node.Node.{Node}
use Rattle.tree_state.proofs.Readings.{node_among, nodes_then}
use Rattle.tree_eval.proofs.Firsts.{main_has, exit_has}
use Rattle.meaning.specs.Lines.{Made, lines_in}
use Rattle.tree_eval.proofs.tops.Tops.find_node.Goals as goal

pub returns-in-Some : goal.returns-in-Some
returns-in-Some g c =
    let p : Node → Bool = g.T.NodeTest.accepts c.args.test.now in
    main_has (node_among p) (nodes_then p) c.args.self.now c.in-Some.node.now (c.in-Some.ensures ∙ ap (λ (b : Made). node_among p (lines_in b)) c.state.ensures)

pub returns-in-Some-exit : goal.returns-in-Some-exit
returns-in-Some-exit g c =
    let p : Node → Bool = g.T.NodeTest.accepts c.args.test.now in
    exit_has (node_among p) (nodes_then p) c.args.self.now _ c.in-Some-exit.exit (c.in_default.ensures ∙ ap (λ (b : Made). node_among p (lines_in b)) c.state.ensures) c.in-Some-exit.is c.find_node-in-Some-exit.ensures
