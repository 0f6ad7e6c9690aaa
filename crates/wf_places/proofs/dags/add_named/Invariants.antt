-- The places so far, and those of the names that are left.
use Rattle.std.proofs.Common.{◌≡◌, ◌++◌, drop}
use Rattle.wf_places.specs.Tags.{call_names}
use Rattle.wf_places.specs.Dags.{named_places}
use Rattle.wf_places.proofs.dags.add_named.Given as goal

abbrev pub invariant-loop-i : goal.invariant-loop-i
invariant-loop-i l = l.out.items ++ named_places (call_names l.known) l.at l.i (drop l.i l.names) ≡ l.initial.out.items ++ named_places (call_names l.known) l.at 0 l.names
