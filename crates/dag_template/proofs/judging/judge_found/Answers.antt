-- By what the task names.
use Rattle.std.proofs.Common.{◌≡◌, length, Option, sym, ap, ◌∙◌, subst}
use Rattle.std.specs.Prelude.{IfOk}
use Rattle.depends_expr.specs.Expression.{Expression}
use Rattle.task_order.specs.Orders.{waited_in, waited}
use Rattle.dag_template.specs.declared.judging.Verdict.{Verdict}
use Rattle.dag_template.proofs.Places.{same_length, places_low, names_found, verdict_depends, verdict_dependencies}
use Rattle.dag_template.proofs.judging.judge_found.Goals as goal

pub judge_depends-requires : goal.judge_depends-requires
judge_depends-requires c =
    let t = c.args.task.now in
    record {
      each =
          sym c.requires.each
          ∙ sym (same_length c.args.tasks.now (waited t) c.args.places.now c.requires.places)
          ∙ ap (λ (o : Option Expression). length (waited_in o t.dependencies)) c.in-Some-default.is-0;
    }

pub returns-in-Some-default : goal.returns-in-Some-default
returns-in-Some-default c of is =
    let ts = c.args.tasks.now in
    let t = c.args.task.now in
    let ps = c.args.places.now in
    let found = c.args.found.now in
    let e = c.in-Some-default.depends in
    let says = c.in-Some-default.is-0 in
    subst (λ (v : Verdict). IfOk c.judge_depends.result (λ verdict. verdict ≡ v)) (verdict_depends ts of t ps found c.requires.places is e says)
    (c.judge_depends.ensures of (names_found ts of t ps found c.requires.places is e says))

pub judge_dependencies-requires-clause-within : goal.judge_dependencies-requires-clause-within
judge_dependencies-requires-clause-within c = places_low c.args.tasks.now (waited c.args.task.now) c.args.places.now c.requires.places

pub returns-in-None-Some : goal.returns-in-None-Some
returns-in-None-Some c of is =
    c.judge_dependencies.ensures
    ∙ verdict_dependencies c.args.tasks.now of c.args.task.now c.args.places.now c.args.found.now c.requires.places is
    c.in-None-Some.field-0-1 c.in-None-Some.is-0 c.in-None-Some.is-1
