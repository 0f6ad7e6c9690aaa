-- Rows of calls.
use Rattle.std.specs.Prelude.{ℕ, List}
use Rattle.meaning.specs.Lines.{Made, row_of}
use Rattle.tree_state.specs.Counting.{count_below}

-- how many nodes stand in a row
abbrev pub count_row : List Made → ℕ
count_row ms = count_below (row_of ms)
