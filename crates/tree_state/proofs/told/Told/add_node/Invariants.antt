use Rattle.std.proofs.Common.{◌≡◌, [], drop}
use Rattle.std.specs.Prelude.{map}
use Rattle.meaning.specs.declared.lines.Line.TheVariants.{Asks}
use Rattle.meaning.specs.Lines.{lines_over}
use Rattle.tree_state.specs.Telling.{told_with}
use Rattle.tree_state.proofs.told.Told.add_node.Given as goal

abbrev pub invariant-loop-want : goal.invariant-loop-want
invariant-loop-want l = told_with l.self (map Asks (drop l.want-index l.want-items)) ≡ told_with l.fn.self (lines_over l.node l.want-items [])
