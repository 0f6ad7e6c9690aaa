use Rattle.std.proofs.Common.{◌≡◌, drop, length, []}
use Rattle.std.specs.Prelude.{IsTrue}
use Rattle.when_expr.specs.Inside.Values.{values, fits}
use Rattle.when_expr.proofs.evaluation.evaluate.Given as goal

-- the values so far and the steps that are left make the values of all steps
abbrev pub invariant-loop-step : goal.invariant-loop-step
invariant-loop-step l = record {
  made : values (drop l.step-index l.steps) l.values ≡ values l.steps [];
  room : IsTrue (fits (length l.values) (drop l.step-index l.steps));
}
