use Rattle.std.proofs.Common.{◌≡◌, ap, sym, subst, ◌∙◌, []}
use Rattle.std.specs.Prelude.{IsTrue, map}
use Rattle.depends_expr.specs.Truth.{truth, names_of}
use Rattle.depends_expr.specs.Inside.Values.{values, top_value, fits}
use Rattle.depends_expr.proofs.Evaluations.{whole_value, whole_fits}
use Rattle.depends_expr.proofs.depends.eval.Goals as goal

pub evaluate-requires-clause-room : goal.evaluate-requires-clause-room
evaluate-requires-clause-room c = subst (λ steps. IsTrue (fits 0 steps)) (sym c.as_slice.ensures) (whole_fits c.depends.inside.names c.depends.inside.steps c.depends.invariant)

pub returns : goal.returns
returns c = λ of p.
    let names = c.depends.inside.names in
    let steps = c.depends.inside.steps in
    let given : map of names ≡ c.args.results.now = ap (map of) (c.depends.invariant.each_once ∙ ap names_of c.depends.view_is) ∙ p in
    c.evaluate.ensures ∙ ap (λ x. top_value (values c.args.results.now x [])) c.as_slice.ensures
    ∙ whole_value of names steps c.args.results.now c.depends.invariant given ∙ ap (truth of) c.depends.view_is
