-- The task at a position stands by those whose positions the plan has.
use Rattle.std.proofs.Common.{◌≡◌, Bool, List, [], Option, Some, get_or, false, ap, sym, subst, ◌∙◌}
use Rattle.std.proofs.lemmas.Option.{get_or_from_slice_get}
use Rattle.std.specs.Prelude.{Result, Ok, Err, IfOk, slice_get}
use Rattle.base_types.specs.declared.memory.Memory.{Memory}
use Rattle.wf_manifest.specs.declared.calls.Task.{Task}
use Rattle.task_order.specs.Orders.{waited}
use Rattle.meaning.specs.Dags.{is_meant}
use Rattle.dag_plan.specs.Plans.{AreAt}
use Rattle.dag_template.specs.declared.stands.Stand.{Stand}
use Rattle.dag_template.specs.Stands.{stand_of, stand_if}
use Rattle.dag_template.proofs.Ordered.{meant_at}
use Rattle.dag_template.proofs.in_order.stand_planned.Goals as goal

pub stand-requires-clause-places : goal.stand-requires-clause-places
stand-requires-clause-places c =
    let d = c.args.dag.now in
    let plan = c.args.plan.now in
    let row = get_or_from_slice_get plan.rows c.args.place c.get-2.result.now [] c.get-2.ensures in
    subst (AreAt d.tasks (waited c.get.result.now)) (row ∙ sym c.as_slice.ensures) (c.requires.plan.rows c.args.place c.get.result.now c.get.ensures)

told :
    (r : Result Stand Memory) (of_task : Task → Stand) (at : Option Task) (u : Task) (x : Stand) → at ≡ Some u → x ≡ of_task u →
    IfOk r (λ found. found ≡ x) → IfOk r (λ found. (t : Task) → at ≡ Some t → found ≡ of_task t)
told (Ok s) of_task at u x is same h = λ t e. h ∙ same ∙ ap of_task (let both : Some u ≡ Some t = sym is ∙ e in cc both)
told (Err e) of_task at u x is same h = tt

pub returns : goal.returns
returns c =
    let d = c.args.dag.now in
    let plan = c.args.plan.now in
    let p = c.args.place in
    let t = c.get.result.now in
    let of = stand_of d.tasks c.args.stands.now in
    let meant : c.get-3.result.now ≡ is_meant d t =
    sym (get_or_from_slice_get plan.meant p c.get-3.result.now false c.get-3.ensures)
    ∙ ap (λ (bs : List Bool). get_or bs p false) c.requires.plan.meant ∙ meant_at (is_meant d) d.tasks p t c.get.ensures in
    told c.stand.result (λ u. stand_if d of u c.args.state (is_meant d u)) (slice_get d.tasks p) t
    (stand_if d of t c.args.state c.get-3.result.now) c.get.ensures (ap (stand_if d of t c.args.state) meant) c.stand.ensures
