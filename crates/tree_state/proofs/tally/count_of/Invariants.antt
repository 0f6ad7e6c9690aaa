-- Those of the kind so far, and those behind them.
use Rattle.std.proofs.Common.{◌≡◌, ◌+◌, ◌≤◌, length, drop}
use Rattle.std.specs.List.{filter}
use Rattle.tree_state.specs.Asking.{is_of}
use Rattle.tree_state.proofs.tally.count_of.Given as goal

abbrev pub invariant-loop-want : goal.invariant-loop-want
invariant-loop-want l = (l.count + length (filter (is_of l.kind) (drop l.want-index l.want-items)) ≡ length (filter (is_of l.kind) l.want-items)) × (l.count ≤ l.want-index)
