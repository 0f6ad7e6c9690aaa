use Rattle.std.proofs.Common.{◌≡◌, take}
use Rattle.run_texts.specs.Inside.Counting.{counts_over}
use Rattle.run_texts.proofs.counting.counts_of.Given as goal

abbrev pub invariant-loop-entry : goal.invariant-loop-entry
invariant-loop-entry g l = l.counts ≡ counts_over l.store.history (take l.entry-index l.entries)
