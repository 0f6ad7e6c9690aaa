-- The plan of this template is kept behind those of the templates before it.
use Rattle.std.proofs.Common.{◌≡◌, List, [], ◌∷◌, ◌++◌, length, Some, sym, ap, ◌∙◌, subst, arith, length-append}
use Rattle.std.specs.Prelude.{Option, slice_get}
use Rattle.dag_plan.specs.declared.plan.DagPlan.{DagPlan}
use Rattle.tree_walk.proofs.Planned.{walkable_at, FirstPlanned, planned_more, all_planned}
use Rattle.tree_walk.proofs.templates.plans_of.Goals as goal

pub plan_of-requires : goal.plan_of-requires
plan_of-requires c = walkable_at c.args.manifest.now c.requires c.loop-i.i c.get.result.now c.get.ensures

pub loop-i-preserved : goal.loop-i-preserved
loop-i-preserved c =
    let ts = c.args.manifest.now.templates in
    let plans = c.loop-i.plans in
    let plan = c.in_ok-plan.plan in
    let t = c.get.result.now in
    let pushed : c.push.new.self ≡ plans ++ plan ∷ [] = c.in_ok-push.ensures.ok in
    let here : slice_get ts (length plans) ≡ Some t = ap (λ n. slice_get ts n) c.loop-i.invariant.long ∙ c.get.ensures in
    record {
      long = omega (arith, ap (λ (ps : List (Option DagPlan)). length ps) pushed, length-append plans (plan ∷ []), c.loop-i.invariant.long);
      planned = subst (λ (ps : List (Option DagPlan)). FirstPlanned ts ps) (sym pushed) (planned_more ts plans t plan here c.in_ok-plan.ensures c.loop-i.invariant.planned);
    }

pub returns : goal.returns
returns c =
    let long : length c.loop-i.plans ≡ length c.args.manifest.now.templates = omega (arith, c.loop-i.invariant.long, c.loop-i.auto.i-end, c.loop-i-test.false, c.len-i-end.ensures) in
    all_planned c.args.manifest.now.templates c.loop-i.plans long c.loop-i.invariant.planned
