-- What is left, and what is read of it.
use Rattle.std.proofs.Common.{◌+◌, length, drop}
use Rattle.meaning.specs.Lines.{lines_below, then_parts}
use Rattle.tree_state.specs.Finding.{found_at}
use Rattle.tree_state.specs.Inside.Kids.{parts_of}
use Rattle.tree_state.specs.Inside.Chunks.{all_of}
use Rattle.tree_state.proofs.Positions.{Left, pods_among}
use Rattle.tree_state.proofs.+find_pod.Given as goal

abbrev pub invariant-filled::Filled::find_pod_at-loop-chunk : goal.invariant-filled::Filled::find_pod_at-loop-chunk
invariant-filled::Filled::find_pod_at-loop-chunk g l =
    let all = pods_among (lines_below l.self) in
    Left l.from (g.T.WantTest.accepts l.test) (found_at l.from l.at (g.T.WantTest.accepts l.test) all) (l.at + length all) l.next (pods_among (lines_below (then_parts (all_of (drop l.chunk-index l.chunk-items)) l.self-inside.last)))

abbrev pub invariant-chunk::Chunk::find_pod_at-loop-kid : goal.invariant-chunk::Chunk::find_pod_at-loop-kid
invariant-chunk::Chunk::find_pod_at-loop-kid g l =
    let all = pods_among (lines_below l.self) in
    Left l.from (g.T.WantTest.accepts l.test) (found_at l.from l.at (g.T.WantTest.accepts l.test) all) (l.at + length all) l.next (pods_among (lines_below (parts_of (drop l.kid-index l.kid-items))))
