-- By the results of the tasks that it names.
use Rattle.std.proofs.Common.{Bool, map, ap, sym, ◌∙◌}
use Rattle.std.specs.Prelude.{if◌then◌else◌}
use Rattle.tree_types.specs.declared.phase.Phase.{Phase}
use Rattle.tree_types.specs.Phases.{worst_of}
use Rattle.dag_template.specs.declared.stands.Stand.{Stand}
use Rattle.dag_template.specs.declared.judging.Verdict.TheVariants.{Holds, Denied}
use Rattle.dag_template.proofs.Judged.{judged}
use Rattle.dag_template.proofs.judging.judge_depends.Goals as goal

pub returns-then-eval : goal.returns-then-eval
returns-then-eval c of is =
    let found = c.args.found.now in
    sym (ap (λ (b : Bool). if b then Holds else Denied (worst_of (map (λ (s : Stand). s.branch) found))) c.if-eval.true)
    ∙ judged of c.args.depends.now found c.as_slice.result.now c.are_over.result c.eval.result
    (sym is) c.are_over.ensures c.if-not-are_over.false (c.as_slice.ensures ∙ c.in_ok-results.ensures) c.eval.ensures

pub returns : goal.returns
returns c of is =
    let found = c.args.found.now in
    ap (λ (p : Phase). Denied p) c.worst_branch.ensures
    ∙ sym (ap (λ (b : Bool). if b then Holds else Denied (worst_of (map (λ (s : Stand). s.branch) found))) c.if-eval.false)
    ∙ judged of c.args.depends.now found c.as_slice.result.now c.are_over.result c.eval.result
    (sym is) c.are_over.ensures c.if-not-are_over.false (c.as_slice.ensures ∙ c.in_ok-results.ensures) c.eval.ensures
