use Rattle.std.proofs.Common.{◌≡◌, ◌∷◌, ◌++◌, drop}
use Rattle.tree_state.proofs.state.State.add_want.Given as goal

abbrev pub invariant-loop-want : goal.invariant-loop-want
invariant-loop-want l = l.wants ++ drop l.want-index l.want-items ≡ l.fn.want ∷ l.want-items
