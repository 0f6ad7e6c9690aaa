-- A parent's ancestors are there where the parent is, since its own parents stand before it.
use Rattle.std.proofs.Common.{◌≡◌, ◌<◌, ℕ, suc, List, [], Bool, true, false, cond, length, get_or, take, sym, ap, ◌∙◌, subst, arith}
use Rattle.std.specs.Prelude.{flat_map, slice_get, Some}
use Rattle.std.proofs.lemmas.List.{get_or_default, take_all}
use Rattle.std.proofs.lemmas.List.Elements.{Contains-get_or}
use Rattle.std.proofs.lemmas.Option.{get_or_from_slice_get}
use Rattle.task_order.proofs.Among.{Among, among_from}
use Rattle.dag_plan.specs.declared.plan.DagPlan.{DagPlan}
use Rattle.dag_template.specs.declared.stands.Stand.{Stand}
use Rattle.dag_template.specs.Stands.{waits}
use Rattle.dag_board.specs.declared.board.Board.{Board}
use Rattle.dag_board.specs.Boards.{stand_at}
use Rattle.dag_board.specs.Inside.Firsts.{add_first, firsts}
use Rattle.dag_board.specs.Inside.Befores.{place_in, parents_at, up_to, IsClosed}
use Rattle.dag_board.proofs.Once.{has_told}
use Rattle.dag_board.proofs.Reaching.{all_each}
use Rattle.dag_board.proofs.Upwards.{place_low, row_before, row_low, closed_so_far, closed_but, closed_below, nothing_more, with_parents}
use Rattle.dag_board.proofs.board.Board.+add_up_to.Goals as goal

-- whether the task at a position exists, as it was read
read_existing :
    (b : Board) (p : ℕ) (read : Stand) (e : Bool) → p < length b.stands.items → read ≡ get_or b.stands.items p read → read.existing ≡ e →
    (stand_at b p).existing ≡ e
read_existing b p read e low is exist =
    ap (λ (s : Stand). s.existing) (get_or_default b.stands.items p waits read low ∙ sym is) ∙ exist

-- its parents, as they were read
read_parents :
    (plan : DagPlan) (b : Board) (p : ℕ) (row read : List ℕ) → (stand_at b p).existing ≡ true → slice_get plan.rows p ≡ Some row →
    read ≡ row → parents_at plan b p ≡ read
read_parents plan b p row read there is same =
    ap (λ (e : Bool). cond e (get_or plan.rows p []) []) there ∙ get_or_from_slice_get plan.rows p row [] is ∙ sym same

pub returns-then-has-clause-list : goal.returns-then-has-clause-list
returns-then-has-clause-list t c =
    let old = c.args.found.now.list in
    let p = c.args.place in
    sym (nothing_more c.args.plan.now c.args.self.now c.requires.within c.requires.order p old c.requires.place c.requires.closed
    (has_told old p (sym c.has.ensures ∙ c.if-has.true)))

pub returns-then-not-index-clause-list : goal.returns-then-not-index-clause-list
returns-then-not-index-clause-list t c =
    let plan = c.args.plan.now in
    let b = c.args.self.now in
    let old = c.args.found.now.list in
    let p = c.args.place in
    let low : p < length b.stands.items = omega (arith, c.requires.stands, c.requires.place) in
    let none = read_existing b p c.index.result.now false low c.index.ensures c.if-not-index.true in
    c.in_ok-add.ensures.list
    ∙ ap (λ (e : Bool). firsts (add_first old p) (flat_map (up_to plan b) (cond e (get_or plan.rows p []) []))) (sym none)
    ∙ with_parents plan b c.requires.within c.requires.order p old c.requires.place

pub add_up_to-requires : goal.add_up_to-requires
add_up_to-requires t c =
    let plan = c.args.plan.now in
    let b = c.args.self.now in
    let old = c.args.found.now.list in
    let p = c.args.place in
    let within = c.requires.within in
    let order = c.requires.order in
    let row = c.as_slice-row.result.now in
    let q : ℕ = get_or row c.loop-j.j 0 in
    let row_is : get_or plan.rows p [] ≡ row = get_or_from_slice_get plan.rows p c.get.result.now [] c.get.ensures ∙ sym c.as_slice-row.ensures in
    let in_row : Among q row = among_from row q (Contains-get_or row c.loop-j.j 0 (omega arith)) in
    let before : place_in plan.order q < place_in plan.order p =
    place_low (place_in plan.order p) plan.order q
    (row_before plan b within order p q c.requires.place (subst (λ (r : List ℕ). Among q r) (sym row_is) in_row)) in
    let few : (r : ℕ) → Among r row → r < length plan.rows =
    λ r a. row_low plan b within order p r c.requires.place (subst (λ (rs : List ℕ). Among r rs) (sym row_is) a) in
    let m : ℕ = suc (place_in plan.order q) in
    let begun : IsClosed plan b m (add_first old p) =
    closed_below plan b within order m (place_in plan.order p) (add_first old p) (omega (arith, before))
    (closed_but plan b within order p old c.requires.closed) in
    let closed : IsClosed plan b m c.loop-j.found.list =
    subst (λ (ps : List ℕ). IsClosed plan b m ps) (sym c.loop-j.invariant.list)
    (closed_so_far plan b within order m (add_first old p) row c.loop-j.j (all_each (λ v. v < length plan.rows) row few) begun) in
    (omega (arith, before, c.decreases), (within, (order, (c.requires.stands, (c.loop-j.invariant.room, (few q in_row, closed))))))

pub returns-clause-list : goal.returns-clause-list
returns-clause-list t c =
    let plan = c.args.plan.now in
    let b = c.args.self.now in
    let old = c.args.found.now.list in
    let p = c.args.place in
    let row = c.as_slice-row.result.now in
    let low : p < length b.stands.items = omega (arith, c.requires.stands, c.requires.place) in
    let there = read_existing b p c.index.result.now true low c.index.ensures c.if-not-index.false in
    let whole : take c.loop-j.j row ≡ row = take_all c.loop-j.j row (omega arith) in
    let parents : parents_at plan b p ≡ row = read_parents plan b p c.get.result.now row there c.get.ensures c.as_slice-row.ensures in
    c.loop-j.invariant.list
    ∙ ap (λ (ps : List ℕ). firsts (add_first old p) (flat_map (up_to plan b) ps)) (whole ∙ sym parents)
    ∙ with_parents plan b c.requires.within c.requires.order p old c.requires.place
