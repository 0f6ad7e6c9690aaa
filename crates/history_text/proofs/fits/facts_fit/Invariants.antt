use Rattle.std.proofs.Common.{take}
use Rattle.std.specs.List.{AllByRecursion}
use Rattle.history_text.specs.Readable.{FitsFact}
use Rattle.history_text.proofs.fits.facts_fit.Given as goal

abbrev pub invariant-loop-fact : goal.invariant-loop-fact
invariant-loop-fact l = AllByRecursion FitsFact (take l.fact-index l.facts)
