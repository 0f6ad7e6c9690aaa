-- The value at the place says its item alone too.
use Rattle.std.proofs.Common.{◌∙◌, ap, arith, [], ◌∷◌, refl}
use Rattle.wf_manifest.specs.declared.calls.Loop.{Loop}
use Rattle.fanout.specs.Items.{items}
use Rattle.loop_item.proofs.OneValue.{within, one_value}
use Rattle.loop_item.proofs.places.item_of_values.Goals as goal

pub returns-then-place-len-clause-item : goal.returns-then-place-len-clause-item
returns-then-place-len-clause-item c all x meant at =
    let inside = within c.args.scope.now c.args.values.now.items c.args.place all x meant at in
    absurd (omega (arith, c.len.ensures))

pub returns-clause-item : goal.returns-clause-item
returns-clause-item c all x meant at =
    let alone = one_value c.args.scope.now c.args.values.now.items c.args.place all x meant at c.index.result.now c.index.ensures in
    c.item_of_all.ensures.item (x ∷ []) x (ap (λ (one : Loop). items c.args.scope.now one) c.in_ok-one.ensures ∙ alone) refl
