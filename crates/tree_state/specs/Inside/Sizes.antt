-- Numbers by which what stands below is less than the whole.
use Rattle.std.specs.Prelude.{ℕ, ◌+◌, ◌*◌}
use Rattle.meaning.specs.Lines.{Parts, Made}
use Rattle.tree_state.specs.Counting.{count_below, count}

abbrev pub made_size : Made → ℕ
made_size m = 6 * count m

abbrev pub summed_size : Made → ℕ
summed_size m = 6 * count m + 1

abbrev pub chunk_size : Parts → ℕ
chunk_size p = 6 * count_below p + 2

abbrev pub filled_size : Parts → ℕ
filled_size p = 6 * count_below p + 3

abbrev pub below_size : Parts → ℕ
below_size p = 6 * count_below p + 5
