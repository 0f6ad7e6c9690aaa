-- What a contract sees of what stands below a node.
use Rattle.std.specs.Prelude.{ℕ, List, [], ◌∷◌, Option, Some, None}
use Rattle.std.specs.declared.sync.Arc.{Arc}
use Rattle.std.specs.declared.alloc.Global.{Global}
use Rattle.meaning.specs.Lines.{Parts, nothing, call, may_begin, asks, Made}
use Rattle.tree_state.specs.declared.state.Line.{Line}
use Rattle.tree_state.specs.declared.state.Line.TheVariants.{MayBegin, Asks}
use Rattle.tree_state.specs.declared.state.Kid.{Kid}
use Rattle.tree_state.specs.Replacing.{replaced}

abbrev pub own_line : Line → Parts → Parts
own_line (MayBegin p) more = may_begin p more
own_line (Asks w) more = asks w more

-- a line of its own, before more
abbrev pub line_then : Option (Arc Line Global) → Parts → Parts
line_then None more = more
line_then (Some l) more = own_line l.value more

-- what a call made, before more
abbrev pub state_then : Option (Arc Made Global) → Parts → Parts
state_then None more = more
state_then (Some s) more = call s.value.own s.value.parts more

-- a kid, before more
abbrev pub kid_before : Kid → Parts → Parts
kid_before k more = line_then k.line (state_then k.state more)

abbrev pub kid_parts : Kid → Parts
kid_parts k = kid_before k nothing

abbrev pub parts_of : List Kid → Parts
parts_of [] = nothing
parts_of (k ∷ ks) = kid_before k (parts_of ks)

-- what is still to be replaced, if anything
abbrev pub replaced_by : Parts → ℕ → Option Made → Parts
replaced_by p i None = p
replaced_by p i (Some m) = replaced p i m
