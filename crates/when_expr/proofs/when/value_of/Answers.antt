use Rattle.std.proofs.Common.{ap, sym, subst, ◌∙◌, []}
use Rattle.std.specs.Prelude.{IsTrue}
use Rattle.when_expr.specs.Truth.{truth}
use Rattle.when_expr.specs.Inside.Values.{values, top_value, fits}
use Rattle.when_expr.proofs.Evaluations.{whole_value, whole_fits}
use Rattle.when_expr.proofs.when.value_of.Goals as goal

pub evaluate-requires : goal.evaluate-requires
evaluate-requires c = subst (λ steps. IsTrue (fits 0 steps)) (sym c.as_slice.ensures) (whole_fits c.when.inside.steps c.when.invariant)

pub returns : goal.returns
returns c = c.evaluate.ensures ∙ ap (λ x. top_value (values x [])) c.as_slice.ensures ∙ whole_value c.when.inside.steps c.when.invariant ∙ ap truth c.when.view_is
