-- The version at the place that was reached stands there.
use Rattle.std.proofs.Common.{◌≡◌, Some}
use Rattle.std.specs.Prelude.{slice_get}
use Rattle.object_store.specs.Versions.{made, versions}
use Rattle.object_store.proofs.ledger.Ledger.get_back.Given as goal

abbrev pub invariant-loop-i : goal.invariant-loop-i
invariant-loop-i g l = slice_get (versions g.C.Content.apply l.self l.key) l.i ≡ Some (made l.content l.tick)
