-- The calls so far, and those that are left.
use Rattle.std.proofs.Common.{◌≡◌, ◌++◌, drop, map}
use Rattle.wf_places.proofs.templates.add_calls.Given as goal

abbrev pub invariant-loop-i : goal.invariant-loop-i
invariant-loop-i l = map (λ call. call.now) l.calls.items ++ drop l.i l.group ≡ map (λ call. call.now) l.initial.calls.items ++ l.group
