use Rattle.std.proofs.Common.{add-one}
use Rattle.bundle_rules.proofs.Items.{items_more}
use Rattle.bundle_rules.proofs.names.places_of.Goals as goal

pub loop-i-preserved : goal.loop-i-preserved
loop-i-preserved c =
    rw add-one (items_more c.args.items.now c.loop-i.i c.index-items-i.result c.loop-i-test.true c.index-items-i.is c.args.all.now
    c.loop-i.before c.in_ok-before.before c.loop-i.places c.add_item.new.places _
    c.in_ok-before.ensures.places c.in_ok-before.ensures.names c.loop-i.invariant)
