-- The names that are left decide.
use Rattle.std.proofs.Common.{◌≡◌, drop, map}
use Rattle.serde_json.specs.View.{view}
use Rattle.item_reader.specs.Schedules.{has_none}
use Rattle.item_reader.proofs.steps.has_none.Given as goal

abbrev pub invariant-loop-i : goal.invariant-loop-i
invariant-loop-i l = has_none (map (λ name. name.now) (drop l.i l.names)) (view l.step) ≡ has_none (map (λ name. name.now) l.names) (view l.step)
