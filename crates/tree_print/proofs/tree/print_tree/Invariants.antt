use Rattle.std.proofs.Common.{◌≡◌, ◌++◌, take, map}
use Rattle.tree_types.specs.Texts.{node_line, text_of_lines}
use Rattle.tree_print.proofs.tree.print_tree.Given as goal

abbrev pub invariant-loop-node : goal.invariant-loop-node
invariant-loop-node l = l.text ≡ l.initial.text ++ text_of_lines (map node_line (take l.node-index l.nodes))
