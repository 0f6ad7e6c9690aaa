-- What there is below a node.
use Rattle.meaning.specs.Lines.{Parts, nothing, call}
use Rattle.tree_state.specs.declared.below.Stock.{Stock}
use Rattle.tree_state.specs.declared.below.Stock.TheVariants.{Nothing, One, Many}

abbrev pub in_stock : Stock → Parts
in_stock Nothing = nothing
in_stock (One s) = call s.value.own s.value.parts nothing
in_stock (Many b) = b.value
