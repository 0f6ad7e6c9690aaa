-- The parts so far, and what is taken of the items that are left.
use Rattle.std.proofs.Common.{◌≡◌, ◌+◌, length}
use Rattle.std.specs.Vec.Iter.{into_iter_items}
use Rattle.wf_bundle.specs.Inside.Parts.{taken_from, taken}
use Rattle.wf_bundle.proofs.checking.check_items.Given as goal

abbrev pub invariant-loop-item : goal.invariant-loop-item
invariant-loop-item l = record {
  found : taken_from l.limits l.position l.parts (into_iter_items l.item-iterator) ≡ taken l.limits l.fn.items;
  count : l.position + length (into_iter_items l.item-iterator) ≡ length l.fn.items;
}
