-- The plan is that of the DAG.
use Rattle.std.proofs.Common.{◌≡◌, ℕ, ◌<◌, List, [], length, get_or, sym, ◌∙◌, subst}
use Rattle.std.specs.List.{All}
use Rattle.task_order.specs.Orders.{AreWithin, Reaches, IsOrder}
use Rattle.dag_plan.specs.Plans.{rows_with}
use Rattle.dag_plan.specs.Inside.Marks.{target_places, AreFound}
use Rattle.dag_plan.proofs.Planned.{rows, all_within, no_circle, goals, goals_within, planned, table_told, rows_told}
use Rattle.dag_plan.proofs.plan.DagPlan.new.Goals as goal

pub places_in_order-requires-clause-within : goal.places_in_order-requires-clause-within
places_in_order-requires-clause-within c =
    let d = c.args.dag.now in
    let r = c.requires in
    let told = rows_told d r.differ r.there r.ranked c.as_slice-tasks.result.now c.in_ok-table.table c.in_ok-rows.rows
    c.as_slice-tasks.ensures c.in_ok-table.ensures c.in_ok-rows.ensures in
    subst AreWithin (sym (c.as_slice.ensures ∙ told)) (all_within d r.differ r.there r.ranked)

pub places_in_order-requires-clause-no_circle : goal.places_in_order-requires-clause-no_circle
places_in_order-requires-clause-no_circle c =
    let d = c.args.dag.now in
    let r = c.requires in
    let told = rows_told d r.differ r.there r.ranked c.as_slice-tasks.result.now c.in_ok-table.table c.in_ok-rows.rows
    c.as_slice-tasks.ensures c.in_ok-table.ensures c.in_ok-rows.ensures in
    subst (λ (rs : List (List ℕ)). (p : ℕ) → Reaches rs p p → ⊥) (sym (c.as_slice.ensures ∙ told)) (no_circle d r.differ r.there r.ranked)

pub target_places-requires : goal.target_places-requires
target_places-requires c =
    let d = c.args.dag.now in
    let r = c.requires in
    let told = rows_told d r.differ r.there r.ranked c.as_slice-tasks.result.now c.in_ok-table.table c.in_ok-rows.rows
    c.as_slice-tasks.ensures c.in_ok-table.ensures c.in_ok-rows.ensures in
    subst AreWithin (sym (c.as_slice-2.ensures ∙ told)) (all_within d r.differ r.there r.ranked)

pub marks_found-requires-clause-within : goal.marks_found-requires-clause-within
marks_found-requires-clause-within c =
    let d = c.args.dag.now in
    let r = c.requires in
    let told = rows_told d r.differ r.there r.ranked c.as_slice-tasks.result.now c.in_ok-table.table c.in_ok-rows.rows
    c.as_slice-tasks.ensures c.in_ok-table.ensures c.in_ok-rows.ensures in
    subst AreWithin (sym (c.as_slice-4.ensures ∙ told)) (all_within d r.differ r.there r.ranked)

pub marks_found-requires-clause-targets : goal.marks_found-requires-clause-targets
marks_found-requires-clause-targets c =
    let d = c.args.dag.now in
    let r = c.requires in
    let table = table_told d r.differ r.there r.ranked c.as_slice-tasks.result.now c.in_ok-table.table c.as_slice-tasks.ensures c.in_ok-table.ensures in
    let told = rows_told d r.differ r.there r.ranked c.as_slice-tasks.result.now c.in_ok-table.table c.in_ok-rows.rows
    c.as_slice-tasks.ensures c.in_ok-table.ensures c.in_ok-rows.ensures in
    let found : c.as_slice-6.result.now ≡ goals d r.differ r.there r.ranked =
    c.as_slice-6.ensures ∙ c.in_ok-targets.ensures
    ∙ (λ i. target_places (table i) (let both = c.as_slice-2.ensures ∙ told in both i) (c.as_slice-3.ensures i)) in
    subst (λ (rs : List (List ℕ)). All (λ p. p < length rs) c.as_slice-6.result.now) (sym (c.as_slice-4.ensures ∙ told))
    (subst (All (λ p. p < length (rows d r.differ r.there r.ranked))) (sym found) (goals_within d r.differ r.there r.ranked))

pub behind_of-requires : goal.behind_of-requires
behind_of-requires c =
    let d = c.args.dag.now in
    let r = c.requires in
    let told = rows_told d r.differ r.there r.ranked c.as_slice-tasks.result.now c.in_ok-table.table c.in_ok-rows.rows
    c.as_slice-tasks.ensures c.in_ok-table.ensures c.in_ok-rows.ensures in
    subst AreWithin (sym (c.as_slice-7.ensures ∙ told)) (all_within d r.differ r.there r.ranked)

pub returns : goal.returns
returns c =
    let d = c.args.dag.now in
    let r = c.requires in
    let table = table_told d r.differ r.there r.ranked c.as_slice-tasks.result.now c.in_ok-table.table c.as_slice-tasks.ensures c.in_ok-table.ensures in
    let told = rows_told d r.differ r.there r.ranked c.as_slice-tasks.result.now c.in_ok-table.table c.in_ok-rows.rows
    c.as_slice-tasks.ensures c.in_ok-table.ensures c.in_ok-rows.ensures in
    let found : c.in_ok-targets.targets ≡ goals d r.differ r.there r.ranked =
    c.in_ok-targets.ensures
    ∙ (λ i. target_places (table i) (let both = c.as_slice-2.ensures ∙ told in both i) (c.as_slice-3.ensures i)) in
    planned d r.differ r.there r.ranked
    (record { order = c.in_ok-order.order; meant = c.from_vec.result; rows = c.in_ok-rows.rows; behind = c.in_ok-behind.behind; targets = c.in_ok-targets.targets })
    told
    (subst (λ (rs : List (List ℕ)). IsOrder rs c.in_ok-order.order) (c.as_slice.ensures ∙ told) c.in_ok-order.ensures)
    found
    (subst (AreFound (rows d r.differ r.there r.ranked) (goals d r.differ r.there r.ranked)) (sym c.from_vec.ensures)
    (subst (λ (gs : List ℕ). AreFound (rows d r.differ r.there r.ranked) gs c.in_ok-meant.meant.items) (c.as_slice-6.ensures ∙ found)
    (subst (λ (rs : List (List ℕ)). AreFound rs c.as_slice-6.result.now c.in_ok-meant.meant.items) (c.as_slice-4.ensures ∙ told) c.in_ok-meant.ensures)))
    (subst (λ (rs : List (List ℕ)). length c.in_ok-behind.behind ≡ length rs) (c.as_slice-7.ensures ∙ told) c.in_ok-behind.ensures.long)
    (subst (λ (rs : List (List ℕ)). (p : ℕ) → p < length rs → get_or c.in_ok-behind.behind p [] ≡ rows_with p 0 rs) (c.as_slice-7.ensures ∙ told)
    c.in_ok-behind.ensures.each)
