-- A template that is found is one of the manifest's, and its plan is kept at its position.
use Rattle.std.proofs.Common.{◌≡◌, List, Some, length, refl, sym, subst}
use Rattle.std.specs.Prelude.{Option, slice_get}
use Rattle.std.proofs.lemmas.Option.{slice_get_read}
use Rattle.wf_manifest.specs.declared.templates.Template.{Template}
use Rattle.dag_plan.specs.declared.plan.DagPlan.{DagPlan}
use Rattle.tree_walk.specs.Planned.{IsPlanned}
use Rattle.tree_walk.proofs.Planned.{walkable_at}
use Rattle.tree_walk.proofs.templates.find_template.Goals as goal

pub returns-clause-walkable : goal.returns-clause-walkable
returns-clause-walkable c =
    let m = c.args.manifest.now in
    let i = c.in_ok-i.field-0.now in
    let t = c.in_ok-template.template.now in
    let ts = c.as_slice.result.now in
    let read = c.in_ok-template.ensures.lookup in
    let found : slice_get ts i ≡ Some t = slice_get_read ts (length ts) i t refl read.3.0 read.1 in
    let here : slice_get m.templates i ≡ Some t = subst (λ (us : List Template). slice_get us i ≡ Some t) c.as_slice.ensures found in
    record {
      walkable = walkable_at m c.requires.valid i t here;
      planned = subst (λ (p : Option DagPlan). IsPlanned t p) (sym c.plan_at-plan.ensures) (c.requires.planned i t here);
    }
