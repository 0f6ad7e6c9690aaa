-- The names that are left decide.
use Rattle.std.proofs.Common.{◌≡◌, drop}
use Rattle.std.specs.List.{list_all}
use Rattle.base_types.specs.Names.{is_among}
use Rattle.wf_places.specs.Tags.{call_names}
use Rattle.wf_places.proofs.dags.are_known.Given as goal

abbrev pub invariant-loop-i : goal.invariant-loop-i
invariant-loop-i l = list_all (is_among (call_names l.known)) (drop l.i l.names) ≡ list_all (is_among (call_names l.known)) l.names
