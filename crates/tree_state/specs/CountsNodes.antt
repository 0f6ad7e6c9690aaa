-- What is counted.
use Rattle.std.specs.Prelude.{◌≡◌, length}
use Rattle.meaning.specs.Lines.{Made, lines_in}
use Rattle.meaning.specs.Trees.{nodes_in}
use Rattle.tree_state.specs.Counting.{count}

-- the count of what a call makes is that of the nodes among its lines
abbrev pub CountsNodes : Type 0
CountsNodes = (m : Made) → length (nodes_in (lines_in m)) ≡ count m
