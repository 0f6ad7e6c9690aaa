-- The templates from template i on are found.
use Rattle.std.proofs.Common.{◌≤◌, length}
use Rattle.tree_walk.specs.Index.{IsIndex}
use Rattle.tree_walk.proofs.templates.index_of.Given as goal

abbrev pub invariant-loop-i : goal.invariant-loop-i
invariant-loop-i l = record {
  within : l.i ≤ length l.manifest.templates;
  found : IsIndex l.index l.manifest.templates l.i;
}

abbrev pub decreases-loop-i : goal.decreases-loop-i
decreases-loop-i l = l.i
