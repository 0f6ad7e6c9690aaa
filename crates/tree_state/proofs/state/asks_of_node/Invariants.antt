use Rattle.std.proofs.Common.{◌≡◌, take}
use Rattle.std.specs.Prelude.{map}
use Rattle.meaning.specs.declared.lines.Line.TheVariants.{Asks}
use Rattle.tree_state.specs.Inside.Sums.{asks_in}
use Rattle.tree_state.proofs.state.asks_of_node.Given as goal

-- the wants so far
abbrev pub invariant-loop-want : goal.invariant-loop-want
invariant-loop-want l = l.asks ≡ asks_in (map Asks (take l.want-index l.want-items))
