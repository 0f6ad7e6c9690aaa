-- Each item of a loop has whole numbers alone.
use Rattle.fanout.specs.Items.{is_whole}
use Rattle.loop_item.proofs.AtPlace.{holds_at}
use Rattle.loop_item.proofs.places.item_of_all.Goals as goal

pub returns-in-Ok-clause-whole : goal.returns-in-Ok-clause-whole
returns-in-Ok-clause-whole c = holds_at is_whole c.in-Ok.items c.args.place c.item_at.result c.item_at.ensures c.in-Ok.ensures.whole
