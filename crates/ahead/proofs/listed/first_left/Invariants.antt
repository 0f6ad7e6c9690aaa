use Rattle.std.proofs.Common.{List, drop}
use Rattle.tree_types.specs.declared.want.Want.{Want}
use Rattle.tree_state.specs.declared.kinds.WantKind.{WantKind}
use Rattle.ahead.specs.Left.{IsAhead}
use Rattle.ahead.proofs.listed.first_left.Given as goal

-- those before are not left
abbrev pub invariant-loop-at : goal.invariant-loop-at
invariant-loop-at g l = (k : WantKind) (ws : List Want) → IsAhead k (g.T.WantTest.accepts l.left) (drop l.from l.wants) ws → IsAhead k (g.T.WantTest.accepts l.left) (drop l.at l.wants) ws
