use Rattle.std.proofs.Common.{take}
use Rattle.std.specs.List.{AllByRecursion}
use Rattle.history_text.specs.Readable.{FitsSel}
use Rattle.history_text.proofs.fits.path_fits.Given as goal

abbrev pub invariant-loop-sel : goal.invariant-loop-sel
invariant-loop-sel l = AllByRecursion FitsSel (take l.sel-index l.sels)
