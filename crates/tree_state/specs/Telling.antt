-- Lines, told kind by kind.
use Rattle.std.specs.Prelude.{List, [], ◌++◌}
use Rattle.meaning.specs.declared.lines.Line.{Line}
use Rattle.meaning.specs.Trees.{nodes_in, wants_in, beginnings_in}
use Rattle.tree_state.specs.declared.told.Told.{Told}

abbrev pub no_lines : Told
no_lines = record { nodes = []; wants = []; beginnings = [] }

-- with these lines behind those before
abbrev pub told_with : Told → List Line → Told
told_with t ls = record {
  nodes = t.nodes ++ nodes_in ls;
  wants = t.wants ++ wants_in ls;
  beginnings = t.beginnings ++ beginnings_in ls;
}
