-- The tags of the item, over the call's.
use Rattle.std.proofs.Common.{refl}
use Rattle.fanout.specs.ItemTexts.{item_tags}
use Rattle.scopes.proofs.ValueIn.{from_none, made}
use Rattle.call_texts.proofs.loops.item_scope.Goals as goal

pub returns : goal.returns
returns c =
    let tags = c.add_item_tags.new.tags in
    let scope = c.args.scope.now in
    let front = item_tags c.args.item.now in
    made c.with.result tags scope front scope c.with.ensures (from_none front tags c.new-tags.result c.new-tags.ensures c.in_ok-add_item_tags.ensures.ok) (λ tag. refl)
