-- The names so far.
use Rattle.std.proofs.Common.{◌≡◌, take, map}
use Rattle.wf_places.proofs.names.names_of.Given as goal

abbrev pub invariant-loop-i : goal.invariant-loop-i
invariant-loop-i g l = map (λ name. name.now) l.names.items ≡ map g.T.Named.name_of (take l.i l.items)
