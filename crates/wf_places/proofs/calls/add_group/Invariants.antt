-- The places so far, and those of the steps that are left.
use Rattle.std.proofs.Common.{◌≡◌, ◌+◌, ◌++◌, drop}
use Rattle.wf_places.specs.Calls.{group_places}
use Rattle.wf_places.specs.Inside.Views.{around_of}
use Rattle.wf_places.proofs.calls.add_group.Given as goal

abbrev pub invariant-loop-j : goal.invariant-loop-j
invariant-loop-j l = l.out.items ++ group_places (around_of l.inside l.spot) l.at (l.position + l.j) l.j (drop l.j l.group) ≡ l.initial.out.items ++ group_places (around_of l.inside l.spot) l.at l.position 0 l.group
