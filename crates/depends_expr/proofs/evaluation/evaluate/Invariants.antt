use Rattle.std.proofs.Common.{◌≡◌, drop, length, []}
use Rattle.std.specs.Prelude.{IsTrue}
use Rattle.std.specs.List.{list_all}
use Rattle.depends_expr.specs.Inside.View.{is_position_below}
use Rattle.depends_expr.specs.Inside.Values.{values, fits}
use Rattle.depends_expr.proofs.evaluation.evaluate.Given as goal

-- the values so far and the steps that are left make the values of all steps
abbrev pub invariant-loop-step : goal.invariant-loop-step
invariant-loop-step l = record {
  made : values l.results (drop l.step-index l.steps) l.values ≡ values l.results l.steps [];
  positions : IsTrue (list_all (is_position_below (length l.results)) (drop l.step-index l.steps));
  room : IsTrue (fits (length l.values) (drop l.step-index l.steps));
}
