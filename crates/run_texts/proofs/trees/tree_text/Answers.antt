use Rattle.run_texts.proofs.Told.{tree_told}
use Rattle.run_texts.proofs.trees.tree_text.Goals as goal

pub returns : goal.returns
returns c =
    tree_told c.print_tree.result c.args.name.now c.args.workflow.now c.state.result.now c.in_ok-told.told c.in_ok-told.ensures c.state.ensures c.print_tree.ensures
