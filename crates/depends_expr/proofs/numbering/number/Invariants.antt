use Rattle.std.proofs.Common.{take}
use Rattle.depends_expr.specs.Inside.Numbering.{Numbers}
use Rattle.depends_expr.proofs.numbering.number.Given as goal

-- the steps so far are numbered
abbrev pub invariant-loop-step : goal.invariant-loop-step
invariant-loop-step l = Numbers l.table l.numbered (take l.step-index l.steps)
