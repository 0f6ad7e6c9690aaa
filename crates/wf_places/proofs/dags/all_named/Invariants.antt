-- The names so far and those that are left.
use Rattle.std.proofs.Common.{◌≡◌, ◌&&◌, drop}
use Rattle.std.specs.List.{list_all}
use Rattle.base_types.specs.Names.{is_among}
use Rattle.depends_expr.specs.Truth.{names_of}
use Rattle.wf_places.specs.Tags.{call_names}
use Rattle.wf_places.proofs.dags.all_named.Given as goal

abbrev pub invariant-loop-i : goal.invariant-loop-i
invariant-loop-i l = (list_all (is_among (call_names l.known)) (drop l.i (names_of l.depends)) && l.all) ≡ list_all (is_among (call_names l.known)) (names_of l.depends)
