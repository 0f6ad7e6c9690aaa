-- The ending so far, and what the declared outputs that are left make of it.
use Rattle.std.proofs.Common.{◌≡◌, drop}
use Rattle.call_nodes.specs.Endings.{ending}
use Rattle.call_nodes.specs.Inside.Sources.{ended_from, with_all}
use Rattle.call_nodes.proofs.endings.ended_from.Given as goal

abbrev pub invariant-loop-i : goal.invariant-loop-i
invariant-loop-i l = with_all (ending l.made) l.source (drop l.i l.declared) ≡ ended_from l.fn.outputs l.source l.declared
