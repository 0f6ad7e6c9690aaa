-- What is left, and what is read of it.
use Rattle.std.proofs.Common.{◌≡◌, drop}
use Rattle.std.specs.List.{find}
use Rattle.meaning.specs.Lines.{lines_below, then_parts}
use Rattle.meaning.specs.Trees.{nodes_in}
use Rattle.tree_state.specs.Inside.Kids.{parts_of}
use Rattle.tree_state.specs.Inside.Chunks.{all_of}
use Rattle.tree_state.proofs.+find_node.Given as goal

abbrev pub invariant-filled::Filled::find_node-loop-chunk : goal.invariant-filled::Filled::find_node-loop-chunk
invariant-filled::Filled::find_node-loop-chunk g l =
    find (g.T.NodeTest.accepts l.test) (nodes_in (lines_below (then_parts (all_of (drop l.chunk-index l.chunk-items)) l.self-inside.last))) ≡ find (g.T.NodeTest.accepts l.test) (nodes_in (lines_below l.self))

abbrev pub invariant-chunk::Chunk::find_node-loop-kid : goal.invariant-chunk::Chunk::find_node-loop-kid
invariant-chunk::Chunk::find_node-loop-kid g l =
    find (g.T.NodeTest.accepts l.test) (nodes_in (lines_below (parts_of (drop l.kid-index l.kid-items)))) ≡ find (g.T.NodeTest.accepts l.test) (nodes_in (lines_below l.self))
