use Rattle.std.proofs.Common.{take}
use Rattle.std.specs.List.{AllByRecursion}
use Rattle.history_text.specs.Readable.{FitsParam}
use Rattle.history_text.proofs.fits.params_fit.Given as goal

abbrev pub invariant-loop-param : goal.invariant-loop-param
invariant-loop-param l = AllByRecursion FitsParam (take l.param-index l.params)
