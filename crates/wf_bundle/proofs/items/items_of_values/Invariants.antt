-- What is read so far, and what the values that are left read as.
use Rattle.std.proofs.Common.{◌≡◌, drop, length}
use Rattle.serde_json.specs.View.{items_view}
use Rattle.wf_bundle.specs.Documents.{items_from}
use Rattle.wf_bundle.proofs.Fronts.{with_front}
use Rattle.wf_bundle.proofs.items.items_of_values.Given as goal

abbrev pub invariant-loop-i : goal.invariant-loop-i
invariant-loop-i l = record {
  read : with_front l.items (items_from l.i (items_view (drop l.i l.values))) ≡ items_from 0 (items_view l.values);
  count : length l.items ≡ l.i;
}
