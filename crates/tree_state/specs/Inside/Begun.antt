-- A task that begins, kid by kid.
use Rattle.std.specs.Prelude.{Bool, false, ◌||◌, Option, Some, None}
use Rattle.std.specs.declared.sync.Arc.{Arc}
use Rattle.std.specs.declared.alloc.Global.{Global}
use Rattle.tree_types.specs.declared.path.Path.{Path}
use Rattle.tree_types.specs.Places.{sels_eq}
use Rattle.meaning.specs.Lines.{Parts, nothing, call, may_begin, asks, Made}
use Rattle.tree_state.specs.declared.state.Line.{Line}
use Rattle.tree_state.specs.declared.state.Line.TheVariants.{MayBegin, Asks}
use Rattle.tree_state.specs.Beginning.{begun}

-- the line lets the task of this path begin
abbrev pub lets_begin : Line → Path → Bool
lets_begin (MayBegin q) p = sels_eq q.sels p.sels
lets_begin (Asks w) p = false

-- the same of a kid's own line
abbrev pub own_lets : Option (Arc Line Global) → Path → Bool
own_lets None p = false
own_lets (Some l) p = lets_begin l.value p

-- the task of this path may begin directly among these
abbrev pub begins_in : Parts → Path → Bool
begins_in nothing p = false
begins_in (call own inner rest) p = begins_in rest p
begins_in (may_begin q rest) p = sels_eq q.sels p.sels || begins_in rest p
begins_in (asks w rest) p = begins_in rest p

-- a call that is still to take the place of its task, if there is one
abbrev pub begun_by : Parts → Path → Option Made → Option Parts
begun_by parts p None = Some parts
begun_by parts p (Some m) = begun parts p m
