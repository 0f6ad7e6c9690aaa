-- The names so far.
use Rattle.std.proofs.Common.{◌≡◌, take, map}
use Rattle.wf_places.specs.Inside.Tables.{output_names}
use Rattle.wf_places.proofs.tables.outputs_of.Given as goal

abbrev pub invariant-loop-i : goal.invariant-loop-i
invariant-loop-i l = l.outputs.items ≡ map output_names (take l.i l.templates)
