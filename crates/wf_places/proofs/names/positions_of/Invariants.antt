-- The names from position i on are found.
use Rattle.std.proofs.Common.{◌≤◌, length, map}
use Rattle.wf_places.specs.Inside.Tables.{IsTable}
use Rattle.wf_places.proofs.names.positions_of.Given as goal

abbrev pub invariant-loop-i : goal.invariant-loop-i
invariant-loop-i l = record {
  within : l.i ≤ length l.names;
  found : IsTable l.positions (map (λ name. name.now) l.names) l.i;
}

abbrev pub decreases-loop-i : goal.decreases-loop-i
decreases-loop-i l = l.i
