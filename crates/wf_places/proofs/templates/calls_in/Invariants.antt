-- The calls so far.
use Rattle.std.proofs.Common.{◌≡◌, take, map}
use Rattle.wf_places.proofs.templates.calls_in.Given as goal

abbrev pub invariant-loop-i : goal.invariant-loop-i
invariant-loop-i l = map (λ call. call.now) l.calls.items ≡ map (λ task. task.call) (take l.i l.tasks)
