-- The names so far.
use Rattle.std.proofs.Common.{◌≡◌, take, map}
use Rattle.wf_places.specs.Tags.{call_names}
use Rattle.wf_places.proofs.tables.call_names.Given as goal

abbrev pub invariant-loop-i : goal.invariant-loop-i
invariant-loop-i l = map (λ name. name.now) l.names.items ≡ call_names (map (λ call. call.now) (take l.i l.calls))
