-- What is left, and what is read of it.
use Rattle.std.proofs.Common.{◌≡◌, drop}
use Rattle.std.specs.List.{find}
use Rattle.meaning.specs.Lines.{lines_below, then_parts}
use Rattle.meaning.specs.Trees.{wants_in}
use Rattle.tree_state.specs.Finding.{passes}
use Rattle.tree_state.specs.Inside.Kids.{parts_of}
use Rattle.tree_state.specs.Inside.Chunks.{all_of}
use Rattle.tree_state.proofs.+find_want.Given as goal

abbrev pub invariant-filled::Filled::find_want-loop-chunk : goal.invariant-filled::Filled::find_want-loop-chunk
invariant-filled::Filled::find_want-loop-chunk g l =
    find (passes l.kind (g.T.WantTest.accepts l.test)) (wants_in (lines_below (then_parts (all_of (drop l.chunk-index l.chunk-items)) l.self-inside.last))) ≡ find (passes l.kind (g.T.WantTest.accepts l.test)) (wants_in (lines_below l.self))

abbrev pub invariant-chunk::Chunk::find_want-loop-kid : goal.invariant-chunk::Chunk::find_want-loop-kid
invariant-chunk::Chunk::find_want-loop-kid g l =
    find (passes l.kind (g.T.WantTest.accepts l.test)) (wants_in (lines_below (parts_of (drop l.kid-index l.kid-items)))) ≡ find (passes l.kind (g.T.WantTest.accepts l.test)) (wants_in (lines_below l.self))
