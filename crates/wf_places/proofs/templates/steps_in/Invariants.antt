-- The steps so far, and those of the groups that are left.
use Rattle.std.proofs.Common.{◌≡◌, ◌++◌, drop, map}
use Rattle.wf_manifest.specs.Valid as valid
use Rattle.wf_places.proofs.templates.steps_in.Given as goal

abbrev pub invariant-loop-i : goal.invariant-loop-i
invariant-loop-i l = map (λ call. call.now) l.calls.items ++ valid.calls_in (drop l.i l.groups) ≡ valid.calls_in l.groups
