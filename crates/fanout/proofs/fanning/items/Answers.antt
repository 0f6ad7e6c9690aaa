use Rattle.fanout.proofs.IsWhole.{sequence_items_whole}
use Rattle.fanout.proofs.fanning.items.Goals as goal

pub returns-in_ok-format-in-Sequence-clause-whole : goal.returns-in_ok-format-in-Sequence-clause-whole
returns-in_ok-format-in-Sequence-clause-whole c =
    sequence_items_whole c.in_ok-count-in-Sequence.count c.in_ok-start-in-Sequence.start c.in_ok-end-in-Sequence.end c.in_ok-format-in-Sequence.format
    c.sequence_items.result c.sequence_items.ensures
