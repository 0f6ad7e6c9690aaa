-- A call in the place of a task that begins.
use Rattle.std.specs.Prelude.{Option, Some, None, if◌then◌else◌, option_map}
use Rattle.tree_types.specs.declared.path.Path.{Path}
use Rattle.tree_types.specs.Places.{sels_eq}
use Rattle.meaning.specs.Lines.{Parts, nothing, call, may_begin, asks, Made}

-- the first task of this path that may begin has begun: a call stands in its place; none where no such task may begin
abbrev pub begun : Parts → Path → Made → Option Parts
begun nothing p m = None
begun (call own inner rest) p m = option_map (call own inner) (begun rest p m)
begun (may_begin q rest) p m =
    if sels_eq q.sels p.sels
    then Some (call m.own m.parts rest)
    else option_map (may_begin q) (begun rest p m)
begun (asks w rest) p m = option_map (asks w) (begun rest p m)
