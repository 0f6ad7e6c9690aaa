use Rattle.std.proofs.Common.{take}
use Rattle.std.specs.List.{AllByRecursion}
use Rattle.history_text.specs.Readable.{FitsEntry}
use Rattle.history_text.proofs.fits.entries_fit.Given as goal

abbrev pub invariant-loop-entry : goal.invariant-loop-entry
invariant-loop-entry l = AllByRecursion FitsEntry (take l.entry-index l.entries)
