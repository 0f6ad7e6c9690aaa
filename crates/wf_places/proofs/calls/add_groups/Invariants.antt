-- The places so far, and those of the groups that are left.
use Rattle.std.proofs.Common.{◌≡◌, ◌++◌, drop}
use Rattle.wf_places.specs.Calls.{groups_places}
use Rattle.wf_places.specs.Inside.Views.{around_of}
use Rattle.wf_places.proofs.calls.add_groups.Given as goal

abbrev pub invariant-loop-i : goal.invariant-loop-i
invariant-loop-i l = l.out.items ++ groups_places (around_of l.inside l.spot) l.at l.position l.i (drop l.i l.groups) ≡ l.initial.out.items ++ groups_places (around_of l.inside l.spot) l.at 0 0 l.groups
