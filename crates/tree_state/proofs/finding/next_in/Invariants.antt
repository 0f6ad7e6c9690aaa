-- The wants so far, and those behind them.
use Rattle.std.proofs.Common.{◌≡◌, drop}
use Rattle.tree_state.specs.Finding.{sooner, next_tick}
use Rattle.tree_state.proofs.finding.next_in.Given as goal

abbrev pub invariant-loop-want : goal.invariant-loop-want
invariant-loop-want l = sooner l.next (next_tick l.clock (drop l.want-index l.want-items)) ≡ next_tick l.clock l.want-items
