-- What stands below a node, chunk by chunk.
use Rattle.std.specs.Prelude.{List, [], ◌∷◌}
use Rattle.std.specs.declared.sync.Arc.{Arc}
use Rattle.std.specs.declared.alloc.Global.{Global}
use Rattle.meaning.specs.Lines.{Parts, nothing, then_parts}

abbrev pub all_of : List (Arc Parts Global) → Parts
all_of [] = nothing
all_of (c ∷ cs) = then_parts c.value (all_of cs)
