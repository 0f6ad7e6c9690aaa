-- Nothing is listed before the first commands, so what is left decides.
use Rattle.std.proofs.Common.{◌≡◌, drop}
use Rattle.bundle_rules.specs.Counts.{made_spots}
use Rattle.bundle_rules.proofs.counts.add_made.Given as goal

abbrev pub invariant-loop-i : goal.invariant-loop-i
invariant-loop-i l = record {
  same : l.spots ≡ l.fn.spots;
  left : made_spots l.i (drop l.i l.items) ≡ made_spots 0 l.items;
}
