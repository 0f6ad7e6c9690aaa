-- Those listed so far, and those behind them.
use Rattle.std.proofs.Common.{◌≡◌, ◌++◌, drop}
use Rattle.std.specs.List.{filter}
use Rattle.tree_state.specs.Asking.{is_of}
use Rattle.tree_state.proofs.listing.add_those.Given as goal

abbrev pub invariant-loop-want : goal.invariant-loop-want
invariant-loop-want l = l.wants ++ filter (is_of l.kind) (drop l.want-index l.want-items) ≡ l.fn.wants ++ filter (is_of l.kind) l.want-items
