-- The loop over the number of the place says its item.
use Rattle.std.proofs.Common.{◌∙◌, ap, [], ◌∷◌, refl}
use Rattle.wf_manifest.specs.declared.calls.Loop.{Loop}
use Rattle.fanout.specs.Items.{items}
use Rattle.loop_item.proofs.OneNumber.{one_number}
use Rattle.loop_item.proofs.places.item_of_numbers.Goals as goal

pub returns-clause-item : goal.returns-clause-item
returns-clause-item c count end all x meant at =
    let alone = one_number c.args.scope.now count end c.args.format.now c.args.place all x meant at in
    c.item_of_all.ensures.item (x ∷ []) x (ap (λ (one : Loop). items c.args.scope.now one) c.in_ok-one.ensures ∙ alone) refl
