use Rattle.std.proofs.Common.{◌∙◌}
use Rattle.run_texts.proofs.Counted.{turn, ended}
use Rattle.run_texts.proofs.counting.counts_of.Goals as goal

pub loop-entry-init : goal.loop-entry-init
loop-entry-init g c = c.no_counts-counts.ensures c.args.store.now.history

pub loop-entry-preserved : goal.loop-entry-preserved
loop-entry-preserved g c =
    turn c.args.store.now.history c.as_slice-entries.result.now c.loop-entry.entry-index c.entry-item.result c.loop-entry.counts c.add_entry.new.counts
    c.loop-entry-test.true c.entry-item.is c.in_ok-add_entry.ensures c.loop-entry.invariant

pub returns : goal.returns
returns g c =
    ended c.args.store.now.history c.as_slice-entries.result.now c.loop-entry.entry-index c.loop-entry.counts c.loop-entry-test.false
    (c.as_slice-entries.ensures ∙ c.entries.ensures) c.loop-entry.invariant
